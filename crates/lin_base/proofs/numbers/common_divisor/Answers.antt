use Rattle.std.proofs.Common.{◌∙◌, arith}
use Rattle.lin_base.proofs.Divisors.{gcd_of-step}
use Rattle.lin_base.proofs.numbers.common_divisor.Goals as goal

pub loop-b-preserved : goal.loop-b-preserved
loop-b-preserved c = c.loop-b.invariant ∙ gcd_of-step c.loop-b.a c.loop-b.b (omega arith)
