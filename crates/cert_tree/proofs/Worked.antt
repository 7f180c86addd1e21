-- Worked certificates.
use Rattle.std.specs.Prelude.{◌≡◌, ◌^◌, ◌-◌, ℕ, ℤ, pos, negsuc, true, false, List, [], ◌∷◌}
use Rattle.std.proofs.Common.{refl}
use Rattle.lin_base.specs.declared.sums.Lin.{Lin}
use Rattle.lin_base.specs.declared.facts.Fact.{Fact}
use Rattle.lin_base.specs.declared.facts.Fact.TheVariants.{AtMostZero, Zero, Divides}
use Rattle.lin_base.specs.declared.facts.Pool.{Pool}
use Rattle.lin_base.specs.Sum.{number}
use Rattle.cert_tree.specs.declared.certs.Row.TheVariants.{Inst, Low}
use Rattle.cert_tree.specs.declared.certs.Tree.{Tree}
use Rattle.cert_tree.specs.declared.certs.Tree.TheOpen as open_tree
use Rattle.cert_tree.specs.declared.certs.Tree.TheViews.{roll-Tree}
use Rattle.cert_tree.specs.Stands.{stands}
use Rattle.cert_tree.specs.Complete.{complete}
use Rattle.cert_tree.specs.Ground.{grounding}
use Rattle.cert_tree.specs.Holds.{checks}
use Rattle.cert_tree.specs.Search.{Found, closed, satisfied}
use Rattle.cert_tree.specs.Measures.{bulk, span, depth, visit_of, values_at}
use Rattle.cert_tree.proofs.Nodes.{nodes}

-- ---- short forms
abbrev lin : List (ℕ × ℤ) → ℤ → Lin
lin ts c = record { coefs = ts; constant = c }

abbrev clash : ℕ → Tree
clash f = roll-Tree (open_tree.Tree-F.Clash f)

abbrev case : ℕ → List Tree → Tree
case n ts = roll-Tree (open_tree.Tree-F.Case n ts)

abbrev combine : List (ℕ × ℤ) → Tree → Tree
combine l t = roll-Tree (open_tree.Tree-F.Combine l t)

abbrev cut : ℕ → Tree → Tree
cut n t = roll-Tree (open_tree.Tree-F.Cut n t)

abbrev least : ℕ → List Tree → Tree
least p ts = roll-Tree (open_tree.Tree-F.Least p ts)

abbrev solve : ℕ → ℕ → Tree → Tree
solve n p t = roll-Tree (open_tree.Tree-F.Solve n p t)

abbrev pool_of : ℕ → List (List Fact) → Pool
pool_of n cs = record { params = n; clauses = cs }

-- ---- the clause true != true
abbrev pool_false : Pool
pool_false = pool_of 0 ((AtMostZero (number (pos 1)) ∷ []) ∷ [])

false_clause_closes : stands pool_false (record { rows = []; tree = case 0 (clash 0 ∷ []) }) ≡ true
false_clause_closes = simp nodes

-- ---- for each x a greater y
abbrev pool_greater : Pool
pool_greater = pool_of 1 ((AtMostZero (lin ((0, negsuc 0) ∷ (1, pos 1) ∷ []) (pos 0)) ∷ []) ∷ [])

-- ---- 2x = 1, by combinations and cuts
abbrev pool_half : Pool
pool_half = pool_of 1 ((Zero (lin ((0, pos 2) ∷ []) (negsuc 0)) ∷ []) ∷ [])

abbrev tree_half : ℕ → Tree
tree_half n =
    case 0 (combine ((0, pos 1) ∷ []) (cut n (combine ((0, negsuc 0) ∷ []) (cut 3 (combine ((2, pos 1) ∷ (4, pos 1) ∷ []) (clash 5))))) ∷ [])

half_closes : stands pool_half (record { rows = []; tree = tree_half 1 }) ≡ true
half_closes = simp nodes

half_with_another_cut : stands pool_half (record { rows = []; tree = tree_half 0 }) ≡ false
half_with_another_cut = simp nodes

-- ---- 3x - 3y between 1 and 2
abbrev pool_difference : Pool
pool_difference = pool_of 2
    ((AtMostZero (lin ((0, negsuc 2) ∷ (1, pos 3) ∷ []) (pos 1)) ∷ []) ∷ (AtMostZero (lin ((0, pos 3) ∷ (1, negsuc 2) ∷ []) (negsuc 1)) ∷ []) ∷ [])

abbrev tree_difference : ℤ → Tree
tree_difference k = case 0 (case 1 (cut 0 (cut 1 (combine ((2, pos 1) ∷ (3, k) ∷ []) (clash 4))) ∷ []) ∷ [])

difference_closes : stands pool_difference (record { rows = []; tree = tree_difference (pos 1) }) ≡ true
difference_closes = simp nodes

-- a clash that names the wrong fact
difference_with_another_sum : stands pool_difference (record { rows = []; tree = tree_difference (pos 2) }) ≡ false
difference_with_another_sum = simp nodes

-- ---- the measures
bulk_greater : bulk pool_greater ≡ 3
bulk_greater = refl

-- its Bulk
bulk_difference : bulk pool_difference ≡ 12
bulk_difference = refl

span_difference : span pool_difference ≡ 9
span_difference = refl

depth_greater : depth pool_greater ≡ 2
depth_greater = refl

bulk_false : bulk pool_false ≡ 2
bulk_false = refl

-- what the search finds for the first two is their printed certificate
found_greater : (visit_of pool_greater).found ≡ closed (case 1 (clash 0 ∷ []))
found_greater = refl

rows_greater : (grounding pool_greater).rows ≡ Inst 0 1 (pos 1) (lin ((0, pos 1) ∷ []) (pos 1)) ∷ []
rows_greater = refl

found_false : (visit_of pool_false).found ≡ closed (case 0 (clash 0 ∷ []))
found_false = refl

-- ---- each x is even: far down at an odd number, also at one below 0
pool_all_even : Pool
pool_all_even = pool_of 0 ((Divides (pos 2) (lin ((0, pos 1) ∷ []) (pos 0)) ∷ []) ∷ [])

odd_numbers_close : stands pool_all_even (record { rows = Low 0 0 (pos 1) ∷ []; tree = case 1 (clash 0 ∷ []) }) ≡ true
unfolding pool_all_even
odd_numbers_close = simp nodes

negative_numbers_close : stands pool_all_even (record { rows = Low 0 0 (negsuc 0) ∷ []; tree = case 1 (clash 0 ∷ []) }) ≡ true
unfolding pool_all_even
negative_numbers_close = simp nodes

-- ---- values 3 and then 2
pool_at_least_three : Pool
pool_at_least_three = pool_of 1 ((AtMostZero (lin ((0, negsuc 0) ∷ []) (pos 3)) ∷ []) ∷ [])

three_holds : checks pool_at_least_three (pos 3 ∷ []) ≡ true
unfolding pool_at_least_three
three_holds = refl

two_fails : checks pool_at_least_three (pos 2 ∷ []) ≡ false
unfolding pool_at_least_three
two_fails = refl

-- ---- one elimination
one_elimination : complete 1 (AtMostZero (lin ((0, negsuc 0) ∷ (1, pos 1) ∷ []) (pos 0)) ∷ []) ≡ (AtMostZero (number (pos 1)) ∷ []) ∷ []
one_elimination = refl

-- ---- a bound at the end of the range
pool_far_up : Pool
pool_far_up = pool_of 1 ((AtMostZero (lin ((0, pos 1) ∷ []) (negsuc (2 ^ 127 - 3))) ∷ []) ∷ [])

span_far_up : span pool_far_up ≡ 2 ^ 127 - 2
unfolding pool_far_up
span_far_up = refl

bulk_far_up : bulk pool_far_up ≡ 3
unfolding pool_far_up
bulk_far_up = refl

-- ---- the search finds a certificate that stands for 3x - 3y between 1 and 2
abbrev searched_difference : Tree
searched_difference =
    case 0 (case 1 (least 0 (least 1 (clash 2 ∷ clash 2 ∷ clash 2 ∷ []) ∷ least 1 (clash 2 ∷ clash 2 ∷ clash 2 ∷ []) ∷ clash 1 ∷ []) ∷ []) ∷ [])

found_difference : (visit_of pool_difference).found ≡ closed searched_difference
found_difference = refl

-- ---- values: 2*u0 = u1, u1 <= 3, 2 <= u1
abbrev pool_solved : Pool
pool_solved = pool_of 2
    ((Zero (lin ((0, pos 2) ∷ (1, negsuc 0) ∷ []) (pos 0)) ∷ []) ∷ (AtMostZero (lin ((1, pos 1) ∷ []) (negsuc 2)) ∷ []) ∷ (AtMostZero (lin ((1, negsuc 0) ∷ []) (pos 2)) ∷ []) ∷ [])

abbrev values_found : Found Tree → List ℤ
values_found (closed t) = []
values_found (satisfied v) = values_at 2 v

values_solved : values_found (visit_of pool_solved).found ≡ pos 1 ∷ pos 2 ∷ []
values_solved = refl

checks_solved : checks pool_solved (pos 1 ∷ pos 2 ∷ []) ≡ true
checks_solved = refl

-- ---- 13 u between -1 and 1: 3 nodes and 13 children
bulk_13 : bulk (pool_of 1 ((AtMostZero (lin ((0, negsuc 12) ∷ []) (pos 1)) ∷ []) ∷ (AtMostZero (lin ((0, pos 13) ∷ []) (pos 1)) ∷ []) ∷ [])) ≡ 16
bulk_13 = refl

-- ---- a clause with two variables: x + y <= 0 or 1 <= x (unknowns 0 and 1, no parameter) isn't true for all values
pool_two : Pool
pool_two = pool_of 0 ((AtMostZero (lin ((0, pos 1) ∷ (1, pos 1) ∷ []) (pos 0)) ∷ AtMostZero (lin ((0, negsuc 0) ∷ []) (pos 1)) ∷ []) ∷ [])

bulk_two : bulk pool_two ≡ 5
unfolding pool_two
bulk_two = refl

two_false : checks pool_two [] ≡ false
unfolding pool_two
two_false = refl
