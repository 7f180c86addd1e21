use Rattle.std.proofs.lemmas.Bool.{leb-true, le-leb}
use Rattle.text_pieces.proofs.Windows.{widened_next, widened_yes, widened_no}
use Rattle.text_pieces.proofs.numbers.reaches.Goals as goal

pub loop-most-preserved : goal.loop-most-preserved
loop-most-preserved c = widened_next c.args.value c.args.low c.loop-most.least c.loop-most.most c.loop-most.invariant c.loop-most-test.true

pub returns-clause-yes : goal.returns-clause-yes
returns-clause-yes c = λ h.
    widened_yes c.args.value c.args.low c.args.high c.loop-most.least c.loop-most.most c.requires.ordered c.loop-most.invariant c.loop-most-test.false (leb-true _ _ h)

pub returns-clause-other : goal.returns-clause-other
returns-clause-other c = λ r.
    le-leb _ _ (widened_no c.args.value c.args.low c.args.high c.loop-most.least c.loop-most.most c.loop-most.invariant r)
