use Rattle.std.proofs.Common.{◌≡◌, drop}
use Rattle.lin_base.specs.Whole.{gcd_of}
use Rattle.lin_base.specs.Change.{common_divisor}
use Rattle.lin_base.proofs.replacing.divisor_of.Given as goal

abbrev pub invariant-loop-term : goal.invariant-loop-term
invariant-loop-term l = common_divisor l.terms ≡ gcd_of l.divisor (common_divisor (drop l.term-index l.terms))
