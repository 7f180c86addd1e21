-- Complete of a clause and one of its variables.
use Rattle.std.specs.Prelude.{ℕ, ℤ, pos, ◌*ℤ◌, List, [], ◌∷◌, ◌++◌, map, Option, Some, None, if◌then◌else◌}
use Rattle.std.specs.List.{filter_map, flat_map, list_any}
use Rattle.lin_base.specs.declared.sums.Lin.{Lin}
use Rattle.lin_base.specs.declared.facts.Fact.{Fact}
use Rattle.lin_base.specs.declared.facts.Fact.TheVariants.{AtMostZero, Zero}
use Rattle.lin_base.specs.declared.wides.Wide.{Wide}
use Rattle.lin_base.specs.Whole.{is_positive, is_zero}
use Rattle.lin_base.specs.Sum.{coef, without, add_number, above}
use Rattle.lin_base.specs.Steps.{multiplies, add_number_steps, replace_all_steps, above_steps}
use Rattle.cert_tree.specs.declared.certs.Row.{Row}
use Rattle.cert_tree.specs.declared.certs.Row.TheVariants.{Inst, Low}
use Rattle.cert_tree.specs.Counting.{numbers_below}
use Rattle.cert_tree.specs.Points.{Side, made_positive, period, period_steps}
use Rattle.cert_tree.specs.Rows.{bounds_above, instance_at, low_at, low_steps, row_clause}

-- `b*x + u` with b positive: of an AtMostZero literal, or a Zero literal made so
abbrev pub upper : ℕ → Fact → Option Side
upper x (AtMostZero t) =
    if is_positive (coef x t) then Some (record { b = coef x t; rest = without x t; steps = [] }) else None
upper x (Zero t) = if is_zero (coef x t) then None else Some (made_positive x t)
upper x _ = None

-- Inst at 1 - u + j
abbrev pub instance : ℕ → ℕ → Side → ℕ → Row
instance n x e j = Inst n x e.b (add_number (above e.rest) (pos j))

-- for j from 0 to b*D - 1
abbrev pub instances : ℕ → ℕ → ℤ → Side → List Row
instances n x d e = map (instance n x e) (numbers_below (e.b *ℤ d))

-- for j from 0 to D - 1, where no AtMostZero literal has a positive coefficient at x
abbrev pub lows : ℕ → ℕ → List Fact → List Row
lows n x clause = if list_any (bounds_above x) clause then [] else map (λ j. Low n x (pos j)) (numbers_below (period x clause))

-- the rows on the clause of number n
abbrev pub complete_rows : ℕ → ℕ → List Fact → List Row
complete_rows n x clause = flat_map (instances n x (period x clause)) (filter_map (upper x) clause) ++ lows n x clause

-- the clauses that these rows give
abbrev pub complete : ℕ → List Fact → List (List Fact)
complete x clause = map (row_clause clause) (complete_rows 0 x clause)

-- ---- the clauses without their rows, and the order of their steps
-- the clause at b*x = s + j
abbrev pub moved_instance : ℕ → List Fact → ℤ → Lin → ℕ → List Fact
moved_instance x clause b s j = instance_at x b (add_number s (pos j)) clause

-- j is added to s, then the literals in order
abbrev pub moved_steps : ℕ → List Fact → ℤ → Lin → ℕ → List Wide
moved_steps x clause b s j = add_number_steps s (pos j) ++ replace_all_steps x b (add_number s (pos j)) clause

-- at all instances above b*x + u
abbrev pub instances_at : ℕ → List Fact → ℤ → ℤ → Lin → List (List Fact)
instances_at x clause d b u = map (moved_instance x clause b (above u)) (numbers_below (b *ℤ d))

-- b*D, then 1 - u
abbrev pub above_bound_steps : ℤ → ℤ → Lin → List Wide
above_bound_steps d b u = multiplies b d ∷ above_steps u

-- then the instances
abbrev pub instances_steps : ℕ → List Fact → ℤ → ℤ → Lin → List Wide
instances_steps x clause d b u = above_bound_steps d b u ++ flat_map (moved_steps x clause b (above u)) (numbers_below (b *ℤ d))

-- of a literal
abbrev pub literal_instances : ℕ → List Fact → ℤ → Option Side → List (List Fact)
literal_instances x clause d None = []
literal_instances x clause d (Some e) = instances_at x clause d e.b e.rest

-- the literal made positive, then its instances
abbrev pub literal_steps : ℕ → List Fact → ℤ → Option Side → List Wide
literal_steps x clause d None = []
literal_steps x clause d (Some e) = e.steps ++ instances_steps x clause d e.b e.rest

-- of the literals in order
abbrev pub uppers_at : ℕ → List Fact → ℤ → List Fact → List (List Fact)
uppers_at x clause d fs = flat_map (λ f. literal_instances x clause d (upper x f)) fs

-- literal by literal
abbrev pub uppers_steps : ℕ → List Fact → ℤ → List Fact → List Wide
uppers_steps x clause d fs = flat_map (λ f. literal_steps x clause d (upper x f)) fs

-- those of making a literal positive
abbrev pub upper_steps : Option Side → List Wide
upper_steps None = []
upper_steps (Some e) = e.steps

-- far down, by remainder
abbrev pub numbered_lows : ℕ → List Fact → List ℕ → List (List Fact)
numbered_lows x clause js = map (λ j. low_at x (pos j) clause) js

-- number by number
abbrev pub numbered_low_steps : ℕ → List Fact → List ℕ → List Wide
numbered_low_steps x clause js = flat_map (λ j. low_steps x (pos j) clause) js

-- none where a literal bounds x above
abbrev pub lows_at : ℕ → List Fact → ℤ → List (List Fact)
lows_at x clause d = if list_any (bounds_above x) clause then [] else numbered_lows x clause (numbers_below d)

-- those of the Low rows
abbrev pub lows_steps : ℕ → List Fact → ℤ → List Wide
lows_steps x clause d = if list_any (bounds_above x) clause then [] else numbered_low_steps x clause (numbers_below d)

-- D first, then the instances by literal; the Low rows come last
abbrev pub complete_steps : ℕ → List Fact → List Wide
complete_steps x clause = period_steps x clause ++ (uppers_steps x clause (period x clause) clause ++ lows_steps x clause (period x clause))
