-- Worked rows on sums and facts.
use Rattle.std.specs.Prelude.{◌≡◌, pos, negsuc, ◌^◌, ◌-◌, List, [], ◌∷◌, Err}
use Rattle.std.proofs.Common.{refl}
use Rattle.lin_base.specs.declared.facts.Fact.TheVariants.{AtMostZero}
use Rattle.lin_base.specs.Whole.{lcm, gcd, div_ceil}
use Rattle.lin_base.specs.Sum.{number, add}
use Rattle.lin_base.specs.Change.{tight, replace}
use Rattle.lin_base.specs.Steps.{formed_by, add_steps, adds, multiplies, lcm_steps}

lcm-row : lcm (pos 4) (pos 6) ≡ pos 12
lcm-row = refl

tight-row : tight (AtMostZero (record { coefs = (0, pos 2) ∷ []; constant = negsuc 0 })) ≡ AtMostZero (record { coefs = (0, pos 1) ∷ []; constant = pos 0 })
tight-row = refl

add-row : formed_by (add_steps (number (pos (2 ^ 127 - 1))) (number (pos 1))) (add (number (pos (2 ^ 127 - 1))) (number (pos 1))) ≡ Err (adds (pos (2 ^ 127 - 1)) (pos 1))
add-row = refl

-- the instance at u0 + 1
replace-row : replace 1 (pos 1) (record { coefs = (0, pos 1) ∷ []; constant = pos 1 }) (AtMostZero (record { coefs = (0, negsuc 0) ∷ (1, pos 1) ∷ []; constant = pos 0 })) ≡ AtMostZero (number (pos 1))
replace-row = refl

lcm_wide : formed_by (lcm_steps (pos (2 ^ 126)) (pos 3)) (pos 0) ≡ Err (multiplies (pos (2 ^ 126)) (pos 3))
lcm_wide = refl

gcd_least : gcd (negsuc (2 ^ 127 - 1)) (pos 0) ≡ 2 ^ 127
gcd_least = refl

ceil_rows : List (div_ceil (negsuc 2) (pos 2) ≡ negsuc 0)
ceil_rows = refl ∷ []

-- the common divisor is 2^127
tight_greatest : tight (AtMostZero (record { coefs = (0, negsuc (2 ^ 127 - 1)) ∷ []; constant = pos 5 })) ≡ AtMostZero (record { coefs = (0, negsuc 0) ∷ []; constant = pos 1 })
tight_greatest = refl

tight_least : tight (AtMostZero (record { coefs = (0, negsuc (2 ^ 127 - 1)) ∷ []; constant = negsuc (2 ^ 127 - 1) })) ≡ AtMostZero (record { coefs = (0, negsuc 0) ∷ []; constant = negsuc 0 })
tight_least = refl
