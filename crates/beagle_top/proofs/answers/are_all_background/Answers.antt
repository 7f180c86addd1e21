use Rattle.beagle_top.proofs.Ending.{both_tests}
use Rattle.beagle_top.proofs.Passing.{all_passed}
use Rattle.beagle_top.proofs.answers.are_all_background.Goals as goal

pub returns-clause-background : goal.returns-clause-background
returns-clause-background c = λ yes.
    both_tests c.args.prepared.now.symbols c.args.prepared.now.clauses c.requires
    (all_passed _ _ _ c.loop-clause.clause-index c.as_slice-clause-items.ensures c.loop-clause-test.false c.loop-clause.invariant)
