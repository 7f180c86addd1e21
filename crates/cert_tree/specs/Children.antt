-- What the nodes of a certificate's tree make of a list of facts.
use Rattle.std.specs.Prelude.{ℕ, ℤ, pos, ◌*ℤ◌, neg_ℤ, int_lt, int_le, ◌&&◌, List, [], ◌∷◌, ◌++◌, map, Option, Some, None, slice_get, if◌then◌else◌}
use Rattle.std.specs.List.{filter_map, flat_map}
use Rattle.lin_base.specs.declared.sums.Lin.{Lin}
use Rattle.lin_base.specs.declared.facts.Fact.{Fact}
use Rattle.lin_base.specs.declared.facts.Fact.TheVariants.{AtMostZero, Zero, Divides}
use Rattle.lin_base.specs.declared.wides.Wide.{Wide}
use Rattle.lin_base.specs.Whole.{is_zero}
use Rattle.lin_base.specs.Fact.{is_lin}
use Rattle.lin_base.specs.Sum.{coef, occurs, add_number, number, above}
use Rattle.lin_base.specs.Change.{replace, tight}
use Rattle.lin_base.specs.Combine.{add_scaled, add_scaled_steps, combined, combined_steps}
use Rattle.lin_base.specs.Steps.{is_narrow, multiplies, above_steps, add_number_steps, replace_steps, replace_all_steps}
use Rattle.cert_tree.specs.Counting.{numbers_below, is_over_free}
use Rattle.cert_tree.specs.Narrow.{option_then, if_narrow}
use Rattle.cert_tree.specs.Points.{Side, period, period_steps, solved, below, divides_part}

-- ---- Case: one child per literal, which is appended
-- the facts with one literal of the clause appended, for each literal
abbrev pub with_each : List Fact → List Fact → List (List Fact)
with_each facts clause = map (λ f. facts ++ f ∷ []) clause

-- ---- Combine: the facts with their multipliers
-- the sum of a fact that may be multiplied by k: AtMostZero where k is at least 0, or Zero
abbrev pub part_of : Fact → ℤ → Option (Lin × ℤ)
part_of (AtMostZero t) k = if int_le (pos 0) k then Some (t, k) else None
part_of (Zero t) k = Some (t, k)
part_of _ k = None

-- one more part, where all are there
abbrev pub and_part : Option (Lin × ℤ) → Option (List (Lin × ℤ)) → Option (List (Lin × ℤ))
and_part (Some e) (Some es) = Some (e ∷ es)
and_part _ _ = None

-- that of the fact of this number
abbrev pub part_at : List Fact → ℕ → ℤ → Option (Lin × ℤ)
part_at facts n k = elim (slice_get facts n) [ None ↦ None | Some f ↦ part_of f k ]

-- the facts with these numbers; each is AtMostZero with k at least 0, or Zero
abbrev pub parts_at : List Fact → List (ℕ × ℤ) → Option (List (Lin × ℤ))
parts_at facts [] = Some []
parts_at facts ((n, k) ∷ list) = and_part (part_at facts n k) (parts_at facts list)

-- the sum so far and k times t
abbrev pub next_sum : Lin → ℤ → Lin → Option Lin
next_sum so_far k t = if_narrow (add_scaled_steps so_far k t) (add_scaled so_far k t)

-- the sum of k times each
abbrev pub combination : List Fact → List (ℕ × ℤ) → Option Lin
combination facts list = option_then (parts_at facts list) (λ parts. if_narrow (combined_steps parts) (combined parts))

-- ---- Cut: an AtMostZero fact, tightened
-- the tightened fact, of an AtMostZero fact alone
abbrev pub cut_of : Fact → Option Fact
cut_of (AtMostZero t) = Some (tight (AtMostZero t))
cut_of _ = None

-- ---- Branch
-- both facts, where the sum is one over parameters that are not used up
abbrev pub branch_facts : ℕ → List ℕ → Lin → Option (Fact × Fact)
branch_facts params used t =
    if is_lin t && is_over_free params used t && is_narrow (above_steps t) then Some (AtMostZero t, AtMostZero (above t)) else None

-- ---- Residues
-- m divides t - i
abbrev pub residue : ℤ → Lin → ℕ → Fact
residue m t i = Divides m (add_number t (neg_ℤ (pos i)))

-- child i has Divides(m, t - i)
abbrev pub residue_child : List Fact → ℤ → Lin → ℕ → List Fact
residue_child facts m t i = facts ++ residue m t i ∷ []

-- one child for each remainder
abbrev pub residue_children : List Fact → ℤ → Lin → List (List Fact)
residue_children facts m t = map (residue_child facts m t) (numbers_below m)

-- the sum of t and -i
abbrev pub residue_steps : Lin → ℕ → List Wide
residue_steps t i = add_number_steps t (neg_ℤ (pos i))

-- remainder by remainder
abbrev pub residues_steps : ℤ → Lin → List Wide
residues_steps m t = flat_map (residue_steps t) (numbers_below m)

-- ---- Solve and Least: `b*p = s` put into each fact
-- each fact with s in place of b*p, then that b divides s
abbrev pub with_value : ℕ → ℤ → Lin → List Fact → List Fact
with_value p b s facts = map (replace p b s) facts ++ divides_part b s

-- ---- Solve: a Zero fact with p
-- the sum of a Zero fact with p
abbrev pub zero_with : ℕ → Fact → Option Lin
zero_with p (Zero t) = if is_zero (coef p t) then None else Some t
zero_with p _ = None

-- the sum made positive and its rest moved to the other side, then the facts in order
abbrev pub solve_steps : ℕ → List Fact → Lin → List Wide
solve_steps p facts t = (solved p t).steps ++ replace_all_steps p (solved p t).b (solved p t).rest facts

-- the facts where p has the value by which t is 0
abbrev pub solved_facts : ℕ → List Fact → Lin → List Fact
solved_facts p facts t = with_value p (solved p t).b (solved p t).rest facts

-- the facts of the child of Solve, where the fact is a Zero fact with p and no step leaves the range
abbrev pub solve_child : List Fact → ℕ → ℕ → Option (List Fact)
solve_child facts n p = option_then (option_then (slice_get facts n) (zero_with p)) (λ t. if_narrow (solve_steps p facts t) (solved_facts p facts t))

-- ---- Least
-- a lower bound, and how many children it has
pub record Bound : Type 0 where
  pub side : Side
  pub children : ℤ
  pub count_steps : List Wide

-- of an AtMostZero fact a*D children, of a Zero fact one
abbrev pub below_bound : ℕ → ℤ → Lin → Bound
below_bound p d t = record { side = below p t; children = (below p t).b *ℤ d; count_steps = multiplies (below p t).b d ∷ [] }

-- the bound that a sum is that is 0: its only child is at the value
abbrev pub solved_bound : ℕ → Lin → Bound
solved_bound p t = record { side = solved p t; children = pos 1; count_steps = [] }

-- the bound that a fact is, if it is one; d is the period
abbrev pub lower_bound : ℕ → ℤ → Fact → Option Bound
lower_bound p d (AtMostZero t) = if int_lt (coef p t) (pos 0) then Some (below_bound p d t) else None
lower_bound p d (Zero t) = if is_zero (coef p t) then None else Some (solved_bound p t)
lower_bound p d _ = None

-- the product of -1 and the coefficient, then the number of children
abbrev pub below_steps : ℕ → ℤ → Lin → List Wide
below_steps p d t = (below p t).steps ++ multiplies (below p t).b d ∷ []

-- the steps of a bound before its first child
abbrev pub bound_steps_of : Option Bound → List Wide
bound_steps_of None = []
bound_steps_of (Some e) = e.side.steps ++ e.count_steps

-- in a child every fact goes by s + j in place of a*p
abbrev pub point : ℕ → List Fact → ℤ → Lin → ℕ → List Fact
point p facts a s j = with_value p a (add_number s (pos j)) facts

-- s + j, then the facts in order
abbrev pub point_steps : ℕ → List Fact → ℤ → Lin → ℕ → List Wide
point_steps p facts a s j = add_number_steps s (pos j) ++ replace_all_steps p a (add_number s (pos j)) facts

-- the children of a bound, by j
abbrev pub bound_children : ℕ → List Fact → Bound → List (List Fact)
bound_children p facts e =
    map (point p facts e.side.b e.side.rest) (numbers_below e.children)

-- without a lower bound: AtMostZero facts with p hold far down
abbrev pub far_down : ℕ → ℕ → Fact → Fact
far_down p j (AtMostZero t) = if occurs p t then AtMostZero (number (pos 0)) else AtMostZero t
far_down p j f = replace p (pos 1) (number (pos j)) f

-- child j where p is far down
abbrev pub far_child : ℕ → List Fact → ℕ → List Fact
far_child p facts j = map (far_down p j) facts

-- one child for each remainder of p modulo D
abbrev pub far_children : ℕ → List Fact → List (List Fact)
far_children p facts = map (far_child p facts) (numbers_below (period p facts))

-- the lower bounds of p, in the order of the facts
abbrev pub lower_bounds : ℕ → List Fact → List Bound
lower_bounds p facts = filter_map (lower_bound p (period p facts)) facts

-- the children by bound, or far down where there is none
abbrev pub children_by : ℕ → List Fact → List Bound → List (List Fact)
children_by p facts [] = far_children p facts
children_by p facts (e ∷ es) = flat_map (bound_children p facts) (e ∷ es)

-- the children by lower bound in the order of the facts, then by j
abbrev pub least_children : ℕ → List Fact → List (List Fact)
least_children p facts = children_by p facts (lower_bounds p facts)

-- the bound and its number of children, then child by child
abbrev pub bound_steps : ℕ → List Fact → Bound → List Wide
bound_steps p facts e = e.side.steps ++ e.count_steps ++ flat_map (point_steps p facts e.side.b e.side.rest) (numbers_below e.children)

-- an AtMostZero fact forms nothing
abbrev pub far_down_steps : ℕ → ℕ → Fact → List Wide
far_down_steps p j (AtMostZero t) = []
far_down_steps p j f = replace_steps p (pos 1) (number (pos j)) f

-- the facts in order
abbrev pub far_child_steps : ℕ → List Fact → ℕ → List Wide
far_child_steps p facts j = flat_map (far_down_steps p j) facts

-- remainder by remainder
abbrev pub far_steps : ℕ → List Fact → List Wide
far_steps p facts = flat_map (far_child_steps p facts) (numbers_below (period p facts))

-- bound by bound, or far down where there is none
abbrev pub steps_by : ℕ → List Fact → List Bound → List Wide
steps_by p facts [] = far_steps p facts
steps_by p facts (e ∷ es) = flat_map (bound_steps p facts) (e ∷ es)

-- D first
abbrev pub least_steps : ℕ → List Fact → List Wide
least_steps p facts = period_steps p facts ++ steps_by p facts (lower_bounds p facts)
