use Rattle.std.proofs.Common.{◌≡◌}
use Rattle.lin_base.specs.Whole.{gcd_of}
use Rattle.lin_base.proofs.numbers.common_divisor.Given as goal

-- the common divisor stays the same
abbrev pub invariant-loop-b : goal.invariant-loop-b
invariant-loop-b l = gcd_of l.fn.a l.fn.b ≡ gcd_of l.a l.b

abbrev pub decreases-loop-b : goal.decreases-loop-b
decreases-loop-b l = l.b
