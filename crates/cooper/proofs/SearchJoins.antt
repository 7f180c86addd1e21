-- The search of the definition gives what the visits of the program give.
use Rattle.std.specs.Prelude.{◌≡◌, ℕ, zero, suc, ◌==◌, ◌-ℤ◌, ℤ, pos, negsuc, Bool, true, false, not, ◌||◌, int_lt, is_some, get_or, drop, length, ◌≤◌, List, [], ◌∷◌, ◌++◌, map, Option, Some, None, if◌then◌else◌}
use Rattle.std.specs.List.{list_any, position, flat_map, filter_map, cons_option}
use Rattle.std.specs.Int.{int_rem_euclid}
use Rattle.std.proofs.Common.{refl, sym, ◌∙◌, ap, arith}
use Rattle.std.proofs.lemmas.Bool.{ne_eqb}
use Rattle.lin_base.specs.declared.facts.Fact.{Fact}
use Rattle.lin_base.specs.declared.facts.Fact.TheVariants.{AtMostZero, Zero, Divides, NotDivides}
use Rattle.lin_base.specs.declared.wides.Wide.{Wide}
use Rattle.lin_base.specs.Whole.{is_zero}
use Rattle.lin_base.specs.Sum.{Valuation, assigned, coef}
use Rattle.lin_base.specs.Numbers.{results}
use Rattle.lin_base.specs.Steps.{add_number_steps, replace_all_steps}
use Rattle.lin_base.specs.Fact.{is_false}
use Rattle.cert_tree.specs.declared.certs.Tree.{Tree}
use Rattle.cert_tree.specs.declared.certs.Tree.TheOpen.{Case, Solve, Least, Clash}
use Rattle.cert_tree.specs.declared.certs.Tree.TheViews.{roll-Tree}
use Rattle.cert_tree.specs.Counting.{count_from, numbers_below}
use Rattle.cert_tree.specs.declared.sums.Side.{Side as Parts}
use Rattle.cert_tree.specs.Bounds.{moved_by}
use Rattle.cert_tree.specs.Points.{period, period_steps, solved}
use Rattle.cert_tree.specs.Sides.{side_of}
use Rattle.cert_tree.specs.Leasts.{is_lower_bound}
use Rattle.cert_tree.specs.Children.{Bound, below_bound, solved_bound, with_each, with_value, point, lower_bound, lower_bounds, bound_steps_of, point_steps}
use Rattle.cert_tree.specs.Ground.{Numbered, unknowns}
use Rattle.cert_tree.specs.Search.{closed, satisfied, Visit, Child, as_it_is, visit_each, node_of, leaf_of, or_clash, eliminate, searched, least_children_of, solve_child, far_child, far_value, bound_child, choice_from, Choice, least_of, top_of, top_formed, the_one}
use Rattle.cooper_rows.proofs.Budgets.{results-append}
use Rattle.cooper.specs.Walks.{Walk, satisfied_here, one_more, after, then_walk, coming_back, under, one_child, child_walk, children_walk, if_any, side_walk, place_walk, point_walk, points_walk, bound_walk, bounds_walk, far_from, far_at, far_formed, far_child_walk, far_walk, least_by, first_of, first_node, open_by, open_node, unless_false, node_walk, literals_walk, case_node}
use Rattle.cooper.proofs.WalkJoins.{each_walk, node_walks, then_nothing, walk_none, children-append, after_then, after_after_walk, back_same, as_it_was}

-- ---- a false fact closes the node
false_join : (o : Option ℕ) (unfalse : Visit Tree) (w : Walk) → one_child unfalse ≡ one_more w
    → one_child (let v : Visit Tree = elim o [ Some n ↦ leaf_of (closed (roll-Tree (Clash n))) | None ↦ unfalse ] in v) ≡ one_more (unless_false o w)
false_join (Some n) unfalse w is = refl
false_join None unfalse w is = is

-- where nothing else may follow
or_join : (o : Option ℕ) (unfalse : Visit Tree) (w : Walk) → one_child unfalse ≡ one_more w → one_child (or_clash o unfalse) ≡ one_more (unless_false o w)
or_join (Some n) unfalse w is = refl
or_join None unfalse w is = is

-- ---- the children of a bound
module _ (visit : List Fact → Visit Tree) (p : ℕ) (facts : List Fact) where
  -- what p is first, then the facts
  place_join : (e : Parts) (steps : List Wide) → after (results (steps ++ replace_all_steps p e.b e.rest facts)) (side_walk visit p e (with_value p e.b e.rest facts)) ≡ after (results steps) (place_walk visit p facts e)
  place_join e steps =
      let w = side_walk visit p e (with_value p e.b e.rest facts) in
      let later = replace_all_steps p e.b e.rest facts in
      ap (λ zs. after zs w) (results-append steps later) ∙ after_after_walk (results steps) (results later) w

  moved_join : (e : Bound) (j : ℕ) → after (results (point_steps p facts e.side.b e.side.rest j)) (side_walk visit p (moved_by (side_of e.side) j) (point p facts e.side.b e.side.rest j)) ≡ point_walk visit p facts (side_of e.side) j
  moved_join e j = place_join (moved_by (side_of e.side) j) (add_number_steps e.side.rest (pos j))

  at_point : (e : Bound) (j : ℕ) (b : Bool) → (j == 0) ≡ b
      → child_walk visit (bound_child p facts e j) ≡ after (results ((if b then e.side.steps ++ e.count_steps else []) ++ point_steps p facts e.side.b e.side.rest j)) (coming_back (bound_child p facts e j).back (bound_child p facts e j).back_formed (one_child (visit (bound_child p facts e j).facts)))
  at_point e j b is = ap (λ c. after (results ((if c then e.side.steps ++ e.count_steps else []) ++ point_steps p facts e.side.b e.side.rest j)) (coming_back (bound_child p facts e j).back (bound_child p facts e j).back_formed (one_child (visit (bound_child p facts e j).facts)))) is

  later_points : (e : Bound) (i n : ℕ) → children_walk visit (map (bound_child p facts e) (count_from (suc i) n)) ≡ points_walk visit p facts (side_of e.side) (count_from (suc i) n)
  later_points e i zero = refl
  later_points e i (suc n) =
      ap (λ w. then_walk w (children_walk visit (map (bound_child p facts e) (count_from (suc (suc i)) n)))) (at_point e (suc i) false (ne_eqb (suc i) 0 (λ h. omega (arith, h))) ∙ moved_join e (suc i))
      ∙ ap (then_walk (point_walk visit p facts (side_of e.side) (suc i))) (later_points e (suc i) n)

  first_point : (e : Bound) → child_walk visit (bound_child p facts e 0) ≡ after (results (bound_steps_of (Some e))) (point_walk visit p facts (side_of e.side) 0)
  first_point e =
      let w = coming_back (bound_child p facts e 0).back (bound_child p facts e 0).back_formed (one_child (visit (bound_child p facts e 0).facts)) in
      let steps = point_steps p facts e.side.b e.side.rest 0 in
      ap (λ zs. after zs w) (results-append (e.side.steps ++ e.count_steps) steps) ∙ after_after_walk (results (e.side.steps ++ e.count_steps)) (results steps) w ∙ ap (after (results (e.side.steps ++ e.count_steps))) (moved_join e 0)

  points_at : (e : Bound) (z : ℤ) → children_walk visit (map (bound_child p facts e) (numbers_below z)) ≡ if_any (numbers_below z) (results (bound_steps_of (Some e))) (points_walk visit p facts (side_of e.side) (numbers_below z))
  points_at e (negsuc n) = refl
  points_at e (pos zero) = refl
  points_at e (pos (suc n)) =
      ap (λ w. then_walk w (children_walk visit (map (bound_child p facts e) (count_from 1 n)))) (first_point e)
      ∙ after_then (results (bound_steps_of (Some e))) (point_walk visit p facts (side_of e.side) 0) (children_walk visit (map (bound_child p facts e) (count_from 1 n)))
      ∙ ap (λ u. after (results (bound_steps_of (Some e))) (then_walk (point_walk visit p facts (side_of e.side) 0) u)) (later_points e 0 n)

  abbrev of_bounds : List Bound → List Child
  of_bounds es = flat_map (λ b. map (bound_child p facts b) (numbers_below b.children)) es

  bounds_join : (d : ℤ) (fs : List Fact) → children_walk visit (of_bounds (filter_map (lower_bound p d) fs)) ≡ bounds_walk visit p d facts fs
  bounds_join d [] = refl
  bounds_join d (f ∷ fs) = cases (lower_bound p d f) ∙ ap (then_walk (bound_walk visit p facts (lower_bound p d f))) (bounds_join d fs)
    where
      cases : (o : Option Bound) → children_walk visit (of_bounds (cons_option o (filter_map (lower_bound p d) fs))) ≡ then_walk (bound_walk visit p facts o) (children_walk visit (of_bounds (filter_map (lower_bound p d) fs)))
      cases None = sym (then_nothing (children_walk visit (of_bounds (filter_map (lower_bound p d) fs))))
      cases (Some e) =
          children-append visit (map (bound_child p facts e) (numbers_below e.children)) (of_bounds (filter_map (lower_bound p d) fs))
          ∙ ap (λ w. then_walk w (children_walk visit (of_bounds (filter_map (lower_bound p d) fs)))) (points_at e e.children)

  -- ---- far down
  far_is : (o : Option ℤ) (j : ℕ) (d : ℤ) → (let z : ℤ = elim o [ None ↦ pos j | Some top ↦ top -ℤ int_rem_euclid (top -ℤ pos j) d ] in z) ≡ far_from o (pos j) d
  far_is None j d = refl
  far_is (Some top) j d = refl

  far_at_join : (j : ℕ) → child_walk visit (far_child p facts j) ≡ far_child_walk visit p facts (period p facts) j
  far_at_join j =
      let same : (v : Valuation) → far_value p facts j v ≡ far_at p facts (pos j) (period p facts) v = λ v. far_is (least_of (filter_map (top_of p v) facts)) j (period p facts) in
      ap (after (far_child p facts j).formed)
      (back_same (far_child p facts j).back (λ v. assigned p (far_at p facts (pos j) (period p facts) v) v) (far_child p facts j).back_formed (far_formed p facts (pos j) (period p facts))
      (λ v. ap (λ z. assigned p z v) (same v)) (λ v. ap (λ z. flat_map (top_formed p v) facts ++ z ∷ []) (same v)) (one_child (visit (far_child p facts j).facts)))

  far_join : (js : List ℕ) → children_walk visit (map (far_child p facts) js) ≡ far_walk visit p facts (period p facts) js
  far_join [] = refl
  far_join (j ∷ js) = ap (λ w. then_walk w (children_walk visit (map (far_child p facts) js))) (far_at_join j) ∙ ap (then_walk (far_child_walk visit p facts (period p facts) j)) (far_join js)

  -- ---- by the bounds, or far down
  abbrev is_any : List Bound → Bool
  is_any [] = false
  is_any (e ∷ es) = true

  bound_test : (d : ℤ) (f : Fact) → is_lower_bound p f ≡ is_some (lower_bound p d f)
  bound_test d (AtMostZero t) = cases (below_bound p d t) (int_lt (coef p t) (pos 0))
    where
      cases : (e : Bound) (b : Bool) → b ≡ is_some (if b then Some e else None)
      cases e true = refl
      cases e false = refl
  bound_test d (Zero t) = cases (solved_bound p t) (is_zero (coef p t))
    where
      cases : (e : Bound) (b : Bool) → not b ≡ is_some (if b then None else Some e)
      cases e true = refl
      cases e false = refl
  bound_test d (Divides m t) = refl
  bound_test d (NotDivides m t) = refl

  any_next : (o : Option Bound) (b : Bool) (es : List Bound) → b ≡ is_any es → (is_some o || b) ≡ is_any (cons_option o es)
  any_next (Some e) b es h = refl
  any_next None b es h = h

  any_bound : (d : ℤ) (fs : List Fact) → list_any (is_lower_bound p) fs ≡ is_any (filter_map (lower_bound p d) fs)
  any_bound d [] = refl
  any_bound d (f ∷ fs) = ap (λ b. b || list_any (is_lower_bound p) fs) (bound_test d f) ∙ any_next (lower_bound p d f) (list_any (is_lower_bound p) fs) (filter_map (lower_bound p d) fs) (any_bound d fs)

  split : (es : List Bound) → children_walk visit (least_children_of p facts es) ≡ (if is_any es then children_walk visit (of_bounds es) else children_walk visit (map (far_child p facts) (numbers_below (period p facts))))
  split [] = refl
  split (e ∷ es) = refl

  least_join : children_walk visit (least_children_of p facts (lower_bounds p facts)) ≡ least_by visit p facts (period p facts)
  least_join =
      let d = period p facts in
      let es = lower_bounds p facts in
      split es
      ∙ ap (λ w. if is_any es then w else children_walk visit (map (far_child p facts) (numbers_below d))) (bounds_join d facts)
      ∙ ap (λ w. if is_any es then bounds_walk visit p d facts facts else w) (far_join (numbers_below d))
      ∙ ap (λ b. if b then bounds_walk visit p d facts facts else far_walk visit p facts d (numbers_below d)) (sym (any_bound d facts))

-- ---- a node without a clause left
module _ (visit : List Fact → Visit Tree) (facts : List Fact) where
  unknowns_join : (xs : List ℕ) → one_child (let v : Visit Tree = elim xs [
    | [] ↦ leaf_of (satisfied (λ x. pos 0))
    | p ∷ ps ↦ node_of (λ ts. roll-Tree (Least p ts)) (results (period_steps p facts)) (visit_each visit (least_children_of p facts (lower_bounds p facts)))
  ] in v) ≡ one_more (first_node visit facts (first_of xs))
  unknowns_join [] = refl
  unknowns_join (p ∷ ps) =
      node_walks (λ ts. roll-Tree (Least p ts)) (results (period_steps p facts)) (visit_each visit (least_children_of p facts (lower_bounds p facts)))
      ∙ ap (λ w. one_more (under (λ ts. roll-Tree (Least p ts)) (after (results (period_steps p facts)) w))) (each_walk visit (least_children_of p facts (lower_bounds p facts)) ∙ least_join visit p facts)

  open_join : (o : Option Choice) → one_child (let v : Visit Tree = elim o [
    | Some c ↦ node_of (λ ts. roll-Tree (Solve c.fact c.p (the_one ts))) [] (visit_each visit (solve_child c facts ∷ []))
    | None ↦ elim (unknowns facts) [
      | [] ↦ leaf_of (satisfied (λ x. pos 0))
      | p ∷ ps ↦ node_of (λ ts. roll-Tree (Least p ts)) (results (period_steps p facts)) (visit_each visit (least_children_of p facts (lower_bounds p facts)))
    ]
  ] in v) ≡ one_more (open_by visit facts o)
  open_join (Some c) =
      node_walks (λ ts. roll-Tree (Solve c.fact c.p (the_one ts))) [] (visit_each visit (solve_child c facts ∷ []))
      ∙ ap (λ w. one_more (under (λ ts. roll-Tree (Solve c.fact c.p (the_one ts))) w)) (each_walk visit (solve_child c facts ∷ []) ∙ walk_none (child_walk visit (solve_child c facts)) ∙ place_join visit c.p facts (side_of (solved c.p c.sum)) (solved c.p c.sum).steps)
  open_join None = unknowns_join (unknowns facts)

-- what is below a node without a clause left
abbrev pub below : ℕ → List Fact → Walk
below zero facts = satisfied_here
below (suc k) facts = open_node (eliminate k) facts

pub eliminate_join : (k : ℕ) (facts : List Fact) → one_child (eliminate k facts) ≡ node_walk facts (below k facts)
eliminate_join zero facts = or_join (position is_false facts) (leaf_of (satisfied (λ x. pos 0))) satisfied_here refl
eliminate_join (suc k) facts = false_join (position is_false facts) _ (open_node (eliminate k) facts) (open_join (eliminate k) facts (choice_from 0 facts))

-- ---- the clauses
literals_join : (visit : List Fact → Visit Tree) (facts lits : List Fact) → children_walk visit (map as_it_is (with_each facts lits)) ≡ literals_walk visit facts lits
literals_join visit facts [] = refl
literals_join visit facts (f ∷ fs) =
    ap (λ w. then_walk w (children_walk visit (map as_it_is (with_each facts fs)))) (as_it_was (one_child (visit (facts ++ f ∷ []))))
    ∙ ap (then_walk (one_child (visit (facts ++ f ∷ [])))) (literals_join visit facts fs)

pub search_join : (c : Numbered) (rest : List Numbered) (facts : List Fact) → one_child (searched (c ∷ rest) facts) ≡ node_walk facts (case_node (searched rest) facts c.0 c.1)
search_join c rest facts =
    false_join (position is_false facts) _ (case_node (searched rest) facts c.0 c.1)
    (node_walks (λ ts. roll-Tree (Case c.0 ts)) [] (visit_each (searched rest) (map as_it_is (with_each facts c.1)))
    ∙ ap (λ w. one_more (under (λ ts. roll-Tree (Case c.0 ts)) w)) (each_walk (searched rest) (map as_it_is (with_each facts c.1)) ∙ literals_join (searched rest) facts c.1))

-- the first of several clauses
pub search_first : (cs : List Numbered) (facts : List Fact) (c : Numbered) → 1 ≤ length cs → c ≡ get_or cs 0 c → node_walk facts (case_node (searched (drop 1 cs)) facts c.0 c.1) ≡ one_child (searched cs facts)
search_first [] facts c up is = absurd (omega arith)
search_first (c0 ∷ cs) facts c up is = ap (λ d. node_walk facts (case_node (searched cs) facts d.0 d.1)) is ∙ sym (search_join c0 cs facts)
