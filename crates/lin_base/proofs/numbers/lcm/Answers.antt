use Rattle.std.proofs.Common.{arith}
use Rattle.lin_base.proofs.Divisors.{gcd_positive}
use Rattle.lin_base.proofs.numbers.lcm.Goals as goal

pub nonzero_div-quotient : goal.nonzero_div-quotient
nonzero_div-quotient c =
    let above = gcd_positive c.args.a c.args.b c.requires.left in
    grind arith
