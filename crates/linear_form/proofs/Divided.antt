-- A sum is divided with its constant as one coefficient more.
use Rattle.std.specs.Prelude.{◌≡◌, ℤ, pos, int_div, Bool, true, false, ◌==◌, map, if◌then◌else◌}
use Rattle.std.proofs.Common.{refl}
use Rattle.std.proofs.lemmas.Grind.{common_steps}
use Rattle.lin_base.specs.declared.sums.Lin.{Lin}
use Rattle.lin_base.specs.declared.facts.Fact.TheVariants.{AtMostZero}
use Rattle.lin_base.specs.Whole.{gcd}
use Rattle.lin_base.specs.Fact.{sum_of}
use Rattle.lin_base.specs.Change.{tight, tight_by, common_divisor}
use Rattle.linear_form.specs.Dividing.{in_front, from_front}
use Rattle.linear_form.specs.Forms.{divided}

by_divisor : (b : Bool) (g : ℤ) (t : Lin) →
    from_front (if b then in_front t else tight_by g (in_front t))
    ≡ (if b then t else record { coefs = map (λ e. (e.0, int_div e.1 g)) t.coefs; constant = int_div t.constant g })
by_divisor true g t = refl
by_divisor false g t = refl

pub divided-front : (t : Lin) → from_front (sum_of (tight (AtMostZero (in_front t)))) ≡ divided t
divided-front t = let g = gcd t.constant (pos (common_divisor t.coefs)) in by_divisor (g == 0) (pos g) t

pub ruleset divided_steps = (common_steps, divided-front)
