use Rattle.std.proofs.Common.{◌≡◌, drop, None}
use Rattle.term_base.specs.SubstTest.{ascends_after}
use Rattle.term_base.proofs.substs.ascends.Given as goal

abbrev pub invariant-loop-pair : goal.invariant-loop-pair
invariant-loop-pair l = ascends_after None l.pairs ≡ ascends_after l.last (drop l.pair-index l.pairs)
