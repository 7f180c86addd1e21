use Rattle.std.proofs.Common.{◌≡◌, drop}
use Rattle.lin_base.specs.Sum.{is_reduced}
use Rattle.lin_base.proofs.sums.is_reduced.Given as goal

abbrev pub invariant-loop-term : goal.invariant-loop-term
invariant-loop-term l = is_reduced l.terms ≡ is_reduced (drop l.term-index l.terms)
