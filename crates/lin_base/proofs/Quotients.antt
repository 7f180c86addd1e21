-- The quotient rounded up is the least whole number whose product with the divisor isn't below.
use Rattle.std.specs.Prelude.{zero, suc, ℤ, pos, negsuc, ◌+ℤ◌, ◌*ℤ◌, ◌≤ℤ◌, ◌<ℤ◌, neg_ℤ}
use Rattle.std.proofs.Common.{arith}
use Rattle.std.proofs.lemmas.Int.{ints}
use Rattle.lin_base.specs.Whole.{div_floor, div_ceil}
use Rattle.lin_base.proofs.Ring.{neg-mul}
use Rattle.lin_base.proofs.Tightening.{floor_bounds}

pub ceil_bounds : (a b : ℤ) → pos 1 ≤ℤ b → (a ≤ℤ (div_ceil a b *ℤ b)) × ((div_ceil a b *ℤ b) <ℤ (a +ℤ b))
ceil_bounds a (pos zero) h = absurd (omega (arith, ints, h))
ceil_bounds a (pos (suc n)) h =
    let bounds = floor_bounds (neg_ℤ a) n in
    let below = bounds.0 in
    let above = bounds.1 in
    let e = neg-mul (div_floor (neg_ℤ a) (pos (suc n))) (pos (suc n)) in
    (omega (arith, ints, below, e), omega (arith, ints, above, e))
ceil_bounds a (negsuc n) h = absurd (omega (arith, ints, h))
