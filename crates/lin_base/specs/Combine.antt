-- The sum that a combination of sums forms: each is multiplied by its number and added to the sum so far, which starts with 0.
use Rattle.std.specs.Prelude.{ℤ, pos, ◌+ℤ◌, ◌*ℤ◌, ◌≤ℤ◌, List, [], ◌∷◌, ◌++◌}
use Rattle.lin_base.specs.declared.sums.Lin.{Lin}
use Rattle.lin_base.specs.declared.wides.Wide.{Wide}
use Rattle.lin_base.specs.Sum.{Valuation, value, add, scale, number}
use Rattle.lin_base.specs.Steps.{add_steps, scale_steps}

-- the sum so far and k times t
abbrev pub add_scaled : Lin → ℤ → Lin → Lin
add_scaled so_far k t = add so_far (scale k t)

-- the products first
abbrev pub add_scaled_steps : Lin → ℤ → Lin → List Wide
add_scaled_steps so_far k t = scale_steps k t ++ add_steps so_far (scale k t)

-- the sum so far and k times each
abbrev pub combined_onto : Lin → List (Lin × ℤ) → Lin
combined_onto so_far [] = so_far
combined_onto so_far ((t, k) ∷ rest) = combined_onto (add_scaled so_far k t) rest

-- the sum of k times each
abbrev pub combined : List (Lin × ℤ) → Lin
combined parts = combined_onto (number (pos 0)) parts

-- one part after the other
abbrev pub combined_onto_steps : Lin → List (Lin × ℤ) → List Wide
combined_onto_steps so_far [] = []
combined_onto_steps so_far ((t, k) ∷ rest) = add_scaled_steps so_far k t ++ combined_onto_steps (add_scaled so_far k t) rest

-- of all parts, beginning with 0
abbrev pub combined_steps : List (Lin × ℤ) → List Wide
combined_steps parts = combined_onto_steps (number (pos 0)) parts

-- ---- the value
-- the sum of k times each value
abbrev pub total : Valuation → List (Lin × ℤ) → ℤ
total v [] = pos 0
total v ((t, k) ∷ rest) = k *ℤ value v t +ℤ total v rest

-- k times the value is at most 0
abbrev pub IsSmall : Valuation → Lin × ℤ → Type 0
IsSmall v e = (e.1 *ℤ value v e.0) ≤ℤ pos 0
