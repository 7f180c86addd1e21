-- Periods, bounds and test points, after Cooper.
use Rattle.std.specs.Prelude.{ℕ, ℤ, pos, negsuc, neg_ℤ, int_lt, List, [], ◌∷◌, ◌++◌, Option, Some, None, if◌then◌else◌}
use Rattle.std.specs.List.{filter_map}
use Rattle.lin_base.specs.Whole.{is_same}
use Rattle.lin_base.specs.declared.sums.Lin.{Lin}
use Rattle.lin_base.specs.declared.facts.Fact.{Fact}
use Rattle.lin_base.specs.declared.facts.Fact.TheVariants.{Divides, NotDivides}
use Rattle.lin_base.specs.declared.wides.Wide.{Wide}
use Rattle.lin_base.specs.Whole.{lcm}
use Rattle.lin_base.specs.Sum.{coef, occurs, without, negated}
use Rattle.lin_base.specs.Steps.{multiplies, lcm_steps, negated_steps}

-- ---- the period D
-- the modulus of a fact with x
abbrev pub modulus_at : ℕ → Fact → Option ℤ
modulus_at x (Divides m s) = if occurs x s then Some m else None
modulus_at x (NotDivides m s) = if occurs x s then Some m else None
modulus_at x _ = None

-- the least common multiple of a number and several others, from the left
abbrev pub lcm_onto : ℤ → List ℤ → ℤ
lcm_onto so_far [] = so_far
lcm_onto so_far (m ∷ ms) = lcm_onto (lcm so_far m) ms

-- the least common multiple of the moduli of the facts with x, or 1
abbrev pub period : ℕ → List Fact → ℤ
period x facts = lcm_onto (pos 1) (filter_map (modulus_at x) facts)

-- multiple by multiple
abbrev pub lcm_onto_steps : ℤ → List ℤ → List Wide
lcm_onto_steps so_far [] = []
lcm_onto_steps so_far (m ∷ ms) = lcm_steps so_far m ++ lcm_onto_steps (lcm so_far m) ms

-- the next multiple, and its steps, where the fact has a modulus
abbrev pub next_period : ℤ → Option ℤ → ℤ
next_period so_far None = so_far
next_period so_far (Some m) = lcm so_far m

-- those of the next multiple
abbrev pub next_period_steps : ℤ → Option ℤ → List Wide
next_period_steps so_far None = []
next_period_steps so_far (Some m) = lcm_steps so_far m

-- the list begins with 1 and goes on from the left
abbrev pub period_steps : ℕ → List Fact → List Wide
period_steps x facts = lcm_onto_steps (pos 1) (filter_map (modulus_at x) facts)

-- ---- a sum with x, seen from x
-- b*x + u, or b*x = s, with its steps
pub record Side : Type 0 where
  pub b : ℤ
  pub rest : Lin
  pub steps : List Wide

-- `b*x + u` with b positive, made from a sum with x that is 0
abbrev pub made_positive : ℕ → Lin → Side
made_positive x t =
    if int_lt (coef x t) (pos 0)
    then record { b = neg_ℤ (coef x t); rest = negated (without x t); steps = negated_steps t }
    else record { b = coef x t; rest = without x t; steps = [] }

-- the rest moved to the other side: `b*x = s`
abbrev pub moved : Side → Side
moved e = record { b = e.b; rest = negated e.rest; steps = e.steps ++ negated_steps e.rest }

-- `b*x = s` with b positive, of a sum with x that is 0
abbrev pub solved : ℕ → Lin → Side
solved x t = moved (made_positive x t)

-- `-a*x + s` with a positive: `s <= a*x`
abbrev pub below : ℕ → Lin → Side
below x t = record { b = neg_ℤ (coef x t); rest = without x t; steps = multiplies (negsuc 0) (coef x t) ∷ [] }

-- b divides the sum, left out where b is 1
abbrev pub divides_part : ℤ → Lin → List Fact
divides_part b s = if is_same b (pos 1) then [] else Divides b s ∷ []

-- b doesn't divide the sum, left out where b is 1
abbrev pub not_divides_part : ℤ → Lin → List Fact
not_divides_part b s = if is_same b (pos 1) then [] else NotDivides b s ∷ []
