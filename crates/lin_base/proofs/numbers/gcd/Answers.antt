use Rattle.std.proofs.Common.{◌≡◌, sym, subst, arith, ℕ}
use Rattle.std.specs.Prelude.{unsigned_abs}
use Rattle.std.specs.Int.{IsGcd}
use Rattle.lin_base.specs.Whole.{gcd}
use Rattle.lin_base.proofs.Divisors.{gcd-IsGcd}
use Rattle.lin_base.proofs.numbers.gcd.Goals as goal

pub returns-clause-greatest : goal.returns-clause-greatest
returns-clause-greatest c =
    let is : c.common_divisor.result ≡ gcd c.args.a c.args.b = grind arith in
    let P : ℕ → Type 0 = λ g. IsGcd (unsigned_abs c.args.a) (unsigned_abs c.args.b) g in
    subst P (sym is) (gcd-IsGcd c.args.a c.args.b)
