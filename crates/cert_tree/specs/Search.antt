-- The one stated search, without limits. It measures a pool; a judge may work in any other way.
use Rattle.std.specs.Prelude.{ℕ, zero, suc, ◌+◌, ℤ, pos, ◌-ℤ◌, neg_ℤ, ◌==◌, nat_lt, unsigned_abs, length, List, [], ◌∷◌, ◌++◌, map, Option, Some, None, if◌then◌else◌}
use Rattle.std.specs.List.{filter_map, flat_map, position}
use Rattle.std.specs.Int.{int_min, int_rem_euclid}
use Rattle.lin_base.specs.declared.sums.Lin.{Lin}
use Rattle.lin_base.specs.declared.facts.Fact.{Fact}
use Rattle.lin_base.specs.declared.facts.Fact.TheVariants.{AtMostZero, Zero}
use Rattle.lin_base.specs.Whole.{div_floor}
use Rattle.lin_base.specs.Sum.{Terms, Valuation, assigned, value, coef, occurs, without, add_number}
use Rattle.lin_base.specs.Numbers.{results}
use Rattle.lin_base.specs.Steps.{value_steps, replace_all_steps}
use Rattle.cert_tree.specs.declared.certs.Tree.{Tree}
use Rattle.cert_tree.specs.declared.certs.Tree.TheOpen.{Case, Solve, Least, Clash}
use Rattle.cert_tree.specs.declared.certs.Tree.TheViews.{roll-Tree}
use Rattle.cert_tree.specs.Counting.{numbers_below}
use Rattle.cert_tree.specs.Points.{period, period_steps, solved}
use Rattle.cert_tree.specs.Children.{Bound, with_each, with_value, lower_bounds, far_down, point_steps, far_down_steps}
use Rattle.cert_tree.specs.Ground.{Numbered, unknowns}
use Rattle.lin_base.specs.Fact.{is_false}

-- ---- what a visit finds
-- every leaf is closed, or the first satisfied leaf gives values
pub data Found (A : Type 0) : Type 0 where
  closed : A → Found A
  satisfied : Valuation → Found A

-- the nodes visited, what was found, and the numbers that were formed
pub record Visit (A : Type 0) : Type 0 where
  pub nodes : ℕ
  pub found : Found A
  pub formed : List ℤ

-- a child to visit: its facts, the numbers formed for them, and the values back from a satisfied leaf below it
pub record Child : Type 0 where
  pub facts : List Fact
  pub formed : List ℤ
  pub back : Valuation → Valuation
  pub back_formed : Valuation → List ℤ

-- a child whose facts are formed of nothing new, and whose values are those below it
abbrev pub as_it_is : List Fact → Child
as_it_is facts = record { facts = facts; formed = []; back = λ v. v; back_formed = λ v. [] }

-- a child in which p gets a value
abbrev pub giving : ℕ → (Valuation → ℤ) → (Valuation → List ℤ) → List ℤ → List Fact → Child
giving p z back formed facts = record { facts = facts; formed = formed; back = λ v. assigned p (z v) v; back_formed = λ v. back v ++ z v ∷ [] }

-- ---- the visits
-- of the children in order, up to the first satisfied leaf
abbrev pub visit_each : (List Fact → Visit Tree) → List Child → Visit (List Tree)
visit_each visit [] = record { nodes = 0; found = closed []; formed = [] }
visit_each visit (c ∷ cs) =
    let first = visit c.facts in
    elim first.found [
      | satisfied v ↦ record { nodes = first.nodes; found = satisfied (c.back v); formed = c.formed ++ first.formed ++ c.back_formed v }
      | closed t ↦
          let rest = visit_each visit cs in
          record { nodes = first.nodes + rest.nodes; found = (elim rest.found [ satisfied v ↦ satisfied v | closed ts ↦ closed (t ∷ ts) ]); formed = c.formed ++ first.formed ++ rest.formed }
    ]

-- a node with these children, as a tree
abbrev pub node_of : (List Tree → Tree) → List ℤ → Visit (List Tree) → Visit Tree
node_of tree formed below = record { nodes = suc below.nodes; found = (elim below.found [ satisfied v ↦ satisfied v | closed ts ↦ closed (tree ts) ]); formed = formed ++ below.formed }

-- a node without children
abbrev pub leaf_of : Found Tree → Visit Tree
leaf_of found = record { nodes = 1; found = found; formed = [] }

-- ---- 1: the first fact that has no unknown and is false
-- a false fact closes the node, else it is visited
abbrev pub or_clash : Option ℕ → Visit Tree → Visit Tree
or_clash (Some n) visit = leaf_of (closed (roll-Tree (Clash n)))
or_clash None visit = visit

-- ---- 3: the first Zero fact with a parameter, and its parameter with the least absolute coefficient
-- the unknown with the least absolute coefficient, the first of equals
abbrev pub least_coef : Terms → Option (ℕ × ℤ)
least_coef [] = None
least_coef ((x, k) ∷ ts) = elim (least_coef ts) [
  | None ↦ Some (x, k)
  | Some e ↦ Some (if nat_lt (unsigned_abs e.1) (unsigned_abs k) then e else (x, k))
]

-- a Zero fact, by its number and its sum, and the parameter for which it is solved
pub record Choice : Type 0 where
  pub fact : ℕ
  pub p : ℕ
  pub sum : Lin

-- that of a fact, where it is a Zero fact with a parameter
abbrev pub choice_in : ℕ → Fact → Option Choice
choice_in n (Zero t) = elim (least_coef t.coefs) [ None ↦ None | Some e ↦ Some (record { fact = n; p = e.0; sum = t }) ]
choice_in n _ = None

-- that of the first such fact
abbrev pub choice_from : ℕ → List Fact → Option Choice
choice_from n [] = None
choice_from n (f ∷ fs) = elim (choice_in n f) [ Some c ↦ Some c | None ↦ choice_from (suc n) fs ]

-- Solve gives p the value s/b
abbrev pub solve_child : Choice → List Fact → Child
solve_child c facts =
    let e = solved c.p c.sum in
    giving c.p (λ v. div_floor (value v e.rest) e.b) (λ v. results (value_steps v e.rest))
    (results (e.steps ++ replace_all_steps c.p e.b e.rest facts)) (with_value c.p e.b e.rest facts)

-- ---- 4: the children of Least
-- with a bound p gets (s + j)/a
abbrev pub bound_child : ℕ → List Fact → Bound → ℕ → Child
bound_child p facts e j =
    let s = add_number e.side.rest (pos j) in
    giving p (λ v. div_floor (value v s) e.side.b) (λ v. results (value_steps v s))
    (results ((if j == 0 then e.side.steps ++ e.count_steps else []) ++ point_steps p facts e.side.b e.side.rest j)) (with_value p e.side.b s facts)

-- the greatest number at which the AtMostZero fact with p holds
abbrev pub top_of : ℕ → Valuation → Fact → Option ℤ
top_of p v (AtMostZero t) = if occurs p t then Some (div_floor (neg_ℤ (value v (without p t))) (coef p t)) else None
top_of p v _ = None

-- the numbers that are formed for it: the rest at the values, -1 times that, the rounded quotient
abbrev pub top_formed : ℕ → Valuation → Fact → List ℤ
top_formed p v (AtMostZero t) =
    if occurs p t
    then results (value_steps v (without p t)) ++ neg_ℤ (value v (without p t)) ∷ div_floor (neg_ℤ (value v (without p t))) (coef p t) ∷ []
    else []
top_formed p v _ = []

-- the least of several numbers
abbrev pub least_of : List ℤ → Option ℤ
least_of [] = None
least_of (z ∷ zs) = elim (least_of zs) [ None ↦ Some z | Some y ↦ Some (int_min z y) ]

-- without one it gets the greatest number that is j modulo D and at which all AtMostZero facts with p hold, or j
abbrev pub far_value : ℕ → List Fact → ℕ → Valuation → ℤ
far_value p facts j v = elim (least_of (filter_map (top_of p v) facts)) [
  | None ↦ pos j
  | Some top ↦ top -ℤ int_rem_euclid (top -ℤ pos j) (period p facts)
]

-- child j where p is far down
abbrev pub far_child : ℕ → List Fact → ℕ → Child
far_child p facts j = giving p (far_value p facts j) (λ v. flat_map (top_formed p v) facts) (results (flat_map (far_down_steps p j) facts)) (map (far_down p j) facts)

-- by lower bound and then by j, or by remainder where there is no bound
abbrev pub least_children_of : ℕ → List Fact → List Bound → List Child
least_children_of p facts [] = map (far_child p facts) (numbers_below (period p facts))
least_children_of p facts (e ∷ es) = flat_map (λ b. map (bound_child p facts b) (numbers_below b.children)) (e ∷ es)

-- the only child of Solve
abbrev pub the_one : List Tree → Tree
the_one [] = roll-Tree (Clash 0)
the_one (t ∷ ts) = t

-- ---- 1, 3, 4 and 5, over at most k parameters
-- a node without a clause left: closed, solved, split by Least, or satisfied
abbrev pub eliminate : ℕ → List Fact → Visit Tree
eliminate zero facts = or_clash (position is_false facts) (leaf_of (satisfied (λ x. pos 0)))
eliminate (suc k) facts = elim (position is_false facts) [
  | Some n ↦ leaf_of (closed (roll-Tree (Clash n)))
  | None ↦ elim (choice_from 0 facts) [
    | Some c ↦ node_of (λ ts. roll-Tree (Solve c.fact c.p (the_one ts))) [] (visit_each (eliminate k) (solve_child c facts ∷ []))
    | None ↦ elim (unknowns facts) [
      | [] ↦ leaf_of (satisfied (λ x. pos 0))
      | p ∷ ps ↦ node_of (λ ts. roll-Tree (Least p ts)) (results (period_steps p facts)) (visit_each (eliminate k) (least_children_of p facts (lower_bounds p facts)))
    ]
  ]
]

-- ---- 1 and 2: the clauses in order, then 3 to 5
-- a node with clauses left: closed, or one child for each literal of the first
abbrev pub searched : List Numbered → List Fact → Visit Tree
searched [] facts = eliminate (length (unknowns facts)) facts
searched (c ∷ rest) facts = elim (position is_false facts) [
  | Some n ↦ leaf_of (closed (roll-Tree (Clash n)))
  | None ↦ node_of (λ ts. roll-Tree (Case c.0 ts)) [] (visit_each (searched rest) (map as_it_is (with_each facts c.1)))
]
