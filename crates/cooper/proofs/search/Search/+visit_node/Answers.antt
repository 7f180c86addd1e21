use Rattle.std.proofs.Common.{◌≡◌, ◌≤◌, ◌<◌, true, false, length, Option, sym, ◌∙◌, ap, subst, arith, ℕ, ℤ, pos, List, None, Err, ◌++◌, ◌+◌, ◌-◌, drop, option_map}
use Rattle.std.specs.List.{list_any, position}
use Rattle.std.proofs.lemmas.Int.{to_z-of_z}
use Rattle.std.proofs.lemmas.List.{at_drop_more}
use Rattle.std.proofs.lemmas.Grind.{common_steps}
use Rattle.lin_base.specs.declared.facts.Fact.{Fact}
use Rattle.lin_base.specs.Fact.{is_false}
use Rattle.lin_base.specs.Sum.{assigned, Valuation}
use Rattle.lin_base.specs.Numbers.{results}
use Rattle.lin_base.specs.Steps.{add_number_steps, replace_all_steps}
use Rattle.cert_tree.specs.declared.certs.Tree.TheOpen.{Solve, Least}
use Rattle.cert_tree.specs.declared.certs.Tree.TheViews.{roll-Tree}
use Rattle.cert_tree.specs.declared.sums.Side.{Side}
use Rattle.cert_tree.specs.Bounds.{bound_of, moved_by}
use Rattle.cert_tree.specs.Children as children
use Rattle.cert_tree.specs.Counting.{count_from, numbers_below}
use Rattle.cert_tree.specs.Leasts.{is_lower_bound}
use Rattle.cert_tree.specs.Points.{period, period_steps, solved}
use Rattle.cert_tree.specs.Search.{closed, satisfied, eliminate, the_one}
use Rattle.cert_tree.specs.Sides.{side_of}
use Rattle.cert_tree.proofs.Completion.{count_at}
use Rattle.cooper_rows.specs.Counted.{IsAfter, IsCause, Fits, fit}
use Rattle.cooper_rows.proofs.Budgets.{counted_err, after_fits}
use Rattle.cooper.specs.Walks.{Walk, coming_back, one_child, found_by, joined, formed_of, far_formed, far_at, far_walk, far_child_walk, bounds_walk, bound_walk, points_walk, point_walk, side_walk, place_walk, side_value, side_value_formed, solved_walk, least_walk, least_by, valuation_of, Walked}
use Rattle.cooper.proofs.Walking.{walk_err, walk_found, walk_next, walked_after, walked_if_true, walked_if_false, back_walked, back_first_err, before_fits, after_ok, after_err, closed_walk, numbers_at, bound_up, bound_err, bound_walked, bound_none}
use Rattle.cooper.proofs.Nodes.{leaf_err, leaf_visited}
use Rattle.cooper.specs.Sharing.{at_place, blank, restored}
use Rattle.cooper.proofs.search.Search.+visit_node.Goals as goal

-- ---- a place
pub visit_place-returns-in_err-kept-clause-walked : goal.visit_place-returns-in_err-kept-clause-walked
visit_place-returns-in_err-kept-clause-walked t c =
    let p = c.args.p in
    let s = c.args.side.now in
    let facts = c.args.self.now.facts.items in
    let m0 = c.args.self.now.room in
    let e = c.in_err-kept.field-0.0 in
    let w = side_walk (eliminate c.args.k) p s (children.with_value p s.b s.rest facts) in
    let zs = results (replace_all_steps p s.b s.rest facts) in
    let is : c.from_residual.result ≡ Err e = grind (arith, common_steps) in
    counted_err _ e m0 m0 w.nodes (zs ++ w.formed) _ is (before_fits e m0 zs w c.in_err-kept.ensures.formed.1)

pub visit_place-returns-in_err-found-clause-walked : goal.visit_place-returns-in_err-found-clause-walked
visit_place-returns-in_err-found-clause-walked t c =
    let k = c.args.k in
    let p = c.args.p in
    let s = c.args.side.now in
    let facts = c.args.self.now.facts.items in
    let m0 = c.args.self.now.room in
    let e = c.in_err-found.field-0.0 in
    let told = c.in_ok-kept.ensures.formed.0 in
    let one = one_child (eliminate k (children.with_value p s.b s.rest facts)) in
    let w = side_walk (eliminate k) p s (children.with_value p s.b s.rest facts) in
    let zs = results (replace_all_steps p s.b s.rest facts) in
    let E : List Fact → Type 0 = λ fs. IsCause e m0 (one_child (eliminate k fs)).nodes (one_child (eliminate k fs)).formed in
    let is : c.from_residual-in_err-found.result ≡ Err e = grind (arith, common_steps) in
    let below = back_first_err e m0 (λ v. assigned p (side_value s v) v) (side_value_formed s) one (subst E told.1 c.in_err-found.ensures.walked.1) in
    counted_err _ e m0 c.visit_node.new.self.room w.nodes (zs ++ w.formed) _ is (after_err e m0 zs w (after_fits m0 zs told.0) below)

pub visit_place-returns-clause-walked : goal.visit_place-returns-clause-walked
visit_place-returns-clause-walked t c =
    let k = c.args.k in
    let p = c.args.p in
    let s = c.args.side.now in
    let facts = c.args.self.now.facts.items in
    let r = c.back_by.result in
    let m0 = c.args.self.now.room in
    let m1 = c.visit_node.new.self.room in
    let t0 = c.args.trees.now in
    let t1 = c.visit_node.new.trees in
    let o = option_map valuation_of c.in_ok-found.found in
    let told = c.in_ok-kept.ensures.formed.0 in
    let zs = results (replace_all_steps p s.b s.rest facts) in
    let W : List Fact → Type 0 = λ fs. IsAfter m1 m0 (one_child (eliminate k fs)).nodes (one_child (eliminate k fs)).formed × (found_by o t1 ≡ joined t0 (one_child (eliminate k fs)).found) in
    let both = subst W told.1 c.in_ok-found.ensures.walked.0 in
    let one = one_child (eliminate k (children.with_value p s.b s.rest facts)) in
    walked_after r m1 m0 t1 t0 zs (side_walk (eliminate k) p s (children.with_value p s.b s.rest facts)) (after_fits m0 zs told.0)
    (back_walked r m1 m0 t1 t0 (λ v. assigned p (side_value s v) v) (side_value_formed s) one o both.0 both.1 c.back_by.ensures)

-- ---- Solve
pub visit_solved-returns-in_err-side-clause-walked : goal.visit_solved-returns-in_err-side-clause-walked
visit_solved-returns-in_err-side-clause-walked t c =
    let visit = eliminate c.args.k in
    let q = c.args.equation.now in
    let facts = c.args.self.now.facts.items in
    let m0 = c.args.self.now.room in
    let e = c.in_err-side.field-0.0 in
    let w = place_walk visit q.p facts (side_of (solved q.p q.sum)) in
    let zs = results (solved q.p q.sum).steps in
    let is : c.from_residual.result ≡ Err e = grind (arith, common_steps) in
    counted_err _ e m0 m0 w.nodes (zs ++ w.formed) _ is (before_fits e m0 zs w c.in_err-side.ensures.formed.1)

pub visit_solved-returns-in_err-found-clause-walked : goal.visit_solved-returns-in_err-found-clause-walked
visit_solved-returns-in_err-found-clause-walked t c =
    let visit = eliminate c.args.k in
    let q = c.args.equation.now in
    let facts = c.args.self.now.facts.items in
    let m0 = c.args.self.now.room in
    let e = c.in_err-found.field-0.0 in
    let told = c.in_ok-side.ensures.formed.0 in
    let w = place_walk visit q.p facts (side_of (solved q.p q.sum)) in
    let zs = results (solved q.p q.sum).steps in
    let E : Side → Type 0 = λ s. IsCause e m0 (place_walk visit q.p facts s).nodes (place_walk visit q.p facts s).formed in
    let is : c.from_residual-in_err-found.result ≡ Err e = grind (arith, common_steps) in
    counted_err _ e m0 c.visit_place.new.self.room w.nodes (zs ++ w.formed) _ is (after_err e m0 zs w (after_fits m0 zs told.0) (subst E told.1 c.in_err-found.ensures.walked.1))

pub visit_solved-returns-clause-walked : goal.visit_solved-returns-clause-walked
visit_solved-returns-clause-walked t c =
    let visit = eliminate c.args.k in
    let q = c.args.equation.now in
    let facts = c.args.self.now.facts.items in
    let m0 = c.args.self.now.room in
    let m1 = c.visit_place.new.self.room in
    let t0 = c.args.trees.now in
    let under_these = c.visit_place.new.trees in
    let told = c.in_ok-side.ensures.formed.0 in
    let found = c.in_ok-found.found in
    let o = option_map valuation_of found in
    let w = place_walk visit q.p facts (side_of (solved q.p q.sum)) in
    let zs = results (solved q.p q.sum).steps in
    let W : Side → Type 0 = λ s. IsAfter m1 m0 (place_walk visit q.p facts s).nodes (place_walk visit q.p facts s).formed × (found_by o under_these ≡ joined c.new-below.result (place_walk visit q.p facts s).found) in
    let both = subst W told.1 c.in_ok-found.ensures.walked.0 in
    (closed_walk m1 m0 under_these c.close_solve.new.trees t0 (λ ts. roll-Tree (Solve q.fact q.p (the_one ts))) (solved_walk visit q.p q.sum facts) found c.in_ok-close_solve.field-0 (after_ok m1 m0 zs w (after_fits m0 zs told.0) both.0) (both.1 ∙ ap (λ ts. joined ts w.found) c.new-below.ensures) c.in_ok-close_solve.ensures, tt)

-- ---- Least
pub visit_least-returns-in_err-d-clause-walked : goal.visit_least-returns-in_err-d-clause-walked
visit_least-returns-in_err-d-clause-walked t c =
    let visit = eliminate c.args.k in
    let p = c.args.p in
    let facts = c.args.self.now.facts.items in
    let m0 = c.args.self.now.room in
    let e = c.in_err-d.field-0.0 in
    let w = least_by visit p facts (period p facts) in
    let zs = results (period_steps p facts) in
    let is : c.from_residual.result ≡ Err e = grind (arith, common_steps) in
    let E : List Fact → Type 0 = λ fs. IsCause e 0 0 (results (period_steps p fs)) in
    counted_err _ e m0 m0 w.nodes (zs ++ w.formed) _ is (before_fits e m0 zs w (subst E c.as_slice.ensures.value c.in_err-d.ensures.formed.1))

pub visit_least-returns-in_err-found-clause-walked : goal.visit_least-returns-in_err-found-clause-walked
visit_least-returns-in_err-found-clause-walked t c =
    let visit = eliminate c.args.k in
    let p = c.args.p in
    let facts = c.args.self.now.facts.items in
    let m0 = c.args.self.now.room in
    let d = c.in_ok-d.d in
    let e = c.in_err-found.field-0.0 in
    let T : List Fact → Type 0 = λ fs. (fit (results (period_steps p fs)) ≡ true) × (d ≡ period p fs) in
    let told = subst T c.as_slice.ensures.value c.in_ok-d.ensures.formed.0 in
    let split = c.split_by-split.result in
    let at : split.d ≡ d = grind (arith, common_steps, to_z-of_z) in
    let w = least_by visit p facts (period p facts) in
    let zs = results (period_steps p facts) in
    let E : ℕ → ℤ → Type 0 = λ q z. IsCause e m0 (least_by visit q facts z).nodes (least_by visit q facts z).formed in
    let is : c.from_residual-in_err-found.result ≡ Err e = grind (arith, common_steps) in
    counted_err _ e m0 c.visit_split.new.self.room w.nodes (zs ++ w.formed) _ is (after_err e m0 zs w (after_fits m0 zs told.0) (subst (E p) (at ∙ told.1) (subst (λ q. E q split.d) c.split_by-split.ensures.p c.in_err-found.ensures.walked.1)))

pub visit_least-returns-clause-walked : goal.visit_least-returns-clause-walked
visit_least-returns-clause-walked t c =
    let visit = eliminate c.args.k in
    let p = c.args.p in
    let facts = c.args.self.now.facts.items in
    let m0 = c.args.self.now.room in
    let m1 = c.visit_split.new.self.room in
    let under_these = c.visit_split.new.trees in
    let d = c.in_ok-d.d in
    let T : List Fact → Type 0 = λ fs. (fit (results (period_steps p fs)) ≡ true) × (d ≡ period p fs) in
    let told = subst T c.as_slice.ensures.value c.in_ok-d.ensures.formed.0 in
    let split = c.split_by-split.result in
    let at : split.d ≡ d = grind (arith, common_steps, to_z-of_z) in
    let found = c.in_ok-found.found in
    let o = option_map valuation_of found in
    let w = least_by visit p facts (period p facts) in
    let zs = results (period_steps p facts) in
    let W : ℕ → ℤ → Type 0 = λ q z. IsAfter m1 m0 (least_by visit q facts z).nodes (least_by visit q facts z).formed × (found_by o under_these ≡ joined c.new-below.result (least_by visit q facts z).found) in
    let both = subst (W p) (at ∙ told.1) (subst (λ q. W q split.d) c.split_by-split.ensures.p c.in_ok-found.ensures.walked.0) in
    (closed_walk m1 m0 under_these c.close_least.new.trees c.args.trees.now (λ ts. roll-Tree (Least p ts)) (least_walk visit p facts) found c.in_ok-close_least.field-0 (after_ok m1 m0 zs w (after_fits m0 zs told.0) both.0) (both.1 ∙ ap (λ ts. joined ts w.found) c.new-below.ensures) c.in_ok-close_least.ensures, tt)

pub visit_split-returns-then-has_bound-clause-walked : goal.visit_split-returns-then-has_bound-clause-walked
visit_split-returns-then-has_bound-clause-walked t c =
    let p = c.args.split.now.p in
    let facts = c.args.self.now.facts.items in
    let visit = eliminate c.args.k in
    let d = c.args.split.now.d in
    let yes : list_any (is_lower_bound p) facts ≡ true = ap (list_any (is_lower_bound p)) (sym c.as_slice.ensures.value) ∙ sym c.has_bound.ensures ∙ c.if-has_bound.true in
    walked_if_true c.visit_bounds.result c.visit_bounds.new.self.room c.args.self.now.room c.visit_bounds.new.trees c.args.trees.now (list_any (is_lower_bound p) facts) (bounds_walk visit p d facts facts) (far_walk visit p facts d (numbers_below d)) yes c.visit_bounds.ensures.walked

pub visit_split-returns-clause-walked : goal.visit_split-returns-clause-walked
visit_split-returns-clause-walked t c =
    let p = c.args.split.now.p in
    let facts = c.args.self.now.facts.items in
    let visit = eliminate c.args.k in
    let d = c.args.split.now.d in
    let n = c.whole_count-count.result in
    let r = c.visit_far.result in
    let m0 = c.args.self.now.room in
    let m2 = c.visit_far.new.self.room in
    let t0 = c.args.trees.now in
    let t2 = c.visit_far.new.trees in
    let no : list_any (is_lower_bound p) facts ≡ false = ap (list_any (is_lower_bound p)) (sym c.as_slice.ensures.value) ∙ sym c.has_bound.ensures ∙ c.if-has_bound.false in
    let W : List ℕ → Type 0 = λ js. Walked r m0 m2 t0 t2 (far_walk visit p facts d js) in
    walked_if_false r m2 m0 t2 t0 (list_any (is_lower_bound p) facts) (bounds_walk visit p d facts facts) (far_walk visit p facts d (numbers_below d)) no (subst W (numbers_at d n c.whole_count-count.ensures c.requires.d) c.visit_far.ensures.walked)

-- ---- far down
pub visit_far-returns-in_err-values-clause-walked : goal.visit_far-returns-in_err-values-clause-walked
visit_far-returns-in_err-values-clause-walked t c =
    let visit = eliminate c.args.k in
    let p = c.args.split.now.p in
    let facts = c.args.self.now.facts.items in
    let d = c.args.split.now.d in
    let n = c.args.count in
    let j = c.loop-j.j in
    let m0 = c.loop-j.self.room in
    let whole = far_walk visit p facts d (count_from 0 n) in
    let one = far_child_walk visit p facts d j in
    let e = c.in_err-values.field-0.0 in
    let is : c.from_residual.result ≡ Err e = grind (arith, common_steps) in
    let E : List Fact → Type 0 = λ fs. IsCause e m0 (far_child_walk visit p fs d j).nodes (far_child_walk visit p fs d j).formed in
    counted_err _ e c.args.self.now.room c.visit_remainder.new.self.room whole.nodes whole.formed _ is
    (walk_err e m0 c.args.self.now.room c.loop-j.trees c.args.trees.now one (far_walk visit p facts d (count_from (j + 1) (n - (j + 1)))) (far_walk visit p facts d (count_from j (n - j))) whole c.loop-j.invariant.walked (ap (far_walk visit p facts d) (count_at n j c.loop-j-test.true)) (subst E c.loop-j.invariant.kept c.in_err-values.ensures.walked.1))

pub visit_far-returns-in-Some-clause-walked : goal.visit_far-returns-in-Some-clause-walked
visit_far-returns-in-Some-clause-walked t c =
    let visit = eliminate c.args.k in
    let p = c.args.split.now.p in
    let facts = c.args.self.now.facts.items in
    let d = c.args.split.now.d in
    let n = c.args.count in
    let j = c.loop-j.j in
    let m0 = c.loop-j.self.room in
    let m1 = c.visit_remainder.new.self.room in
    let t0 = c.loop-j.trees in
    let t1 = c.visit_remainder.new.trees in
    let o = option_map valuation_of c.in_ok-values.field-0 in
    let whole = far_walk visit p facts d (count_from 0 n) in
    let one = far_child_walk visit p facts d j in
    let W : List Fact → Type 0 = λ fs. IsAfter m1 m0 (far_child_walk visit p fs d j).nodes (far_child_walk visit p fs d j).formed × (found_by o t1 ≡ joined t0 (far_child_walk visit p fs d j).found) in
    let told = subst W c.loop-j.invariant.kept c.in_ok-values.ensures.walked.0 in
    let found : satisfied (valuation_of c.in-Some.values) ≡ joined t0 one.found = sym (ap (λ x. found_by (option_map valuation_of x) t1) c.in-Some.is) ∙ told.1 in
    (walk_found m1 m0 c.args.self.now.room t0 c.args.trees.now one (far_walk visit p facts d (count_from (j + 1) (n - (j + 1)))) (far_walk visit p facts d (count_from j (n - j))) whole (valuation_of c.in-Some.values) c.loop-j.invariant.walked (ap (far_walk visit p facts d) (count_at n j c.loop-j-test.true)) told.0 found, tt)

pub visit_far-loop-j-preserved : goal.visit_far-loop-j-preserved
visit_far-loop-j-preserved t c =
    let visit = eliminate c.args.k in
    let p = c.args.split.now.p in
    let facts = c.args.self.now.facts.items in
    let d = c.args.split.now.d in
    let n = c.args.count in
    let j = c.loop-j.j in
    let m0 = c.loop-j.self.room in
    let m1 = c.visit_remainder.new.self.room in
    let t0 = c.loop-j.trees in
    let t1 = c.visit_remainder.new.trees in
    let o = option_map valuation_of c.in_ok-values.field-0 in
    let whole = far_walk visit p facts d (count_from 0 n) in
    let one = far_child_walk visit p facts d j in
    let W : List Fact → Type 0 = λ fs. IsAfter m1 m0 (far_child_walk visit p fs d j).nodes (far_child_walk visit p fs d j).formed × (found_by o t1 ≡ joined t0 (far_child_walk visit p fs d j).found) in
    let told = subst W c.loop-j.invariant.kept c.in_ok-values.ensures.walked.0 in
    let none : closed t1 ≡ joined t0 one.found = sym (ap (λ x. found_by (option_map valuation_of x) t1) c.in-None.is) ∙ told.1 in
    record {
      walked = walk_next m1 m0 c.args.self.now.room t1 t0 c.args.trees.now one (far_walk visit p facts d (count_from (j + 1) (n - (j + 1)))) (far_walk visit p facts d (count_from j (n - j))) whole c.loop-j.invariant.walked (ap (far_walk visit p facts d) (count_at n j c.loop-j-test.true)) told.0 none;
      kept = ◌∙◌ {A = List Fact} c.in_ok-values.ensures.kept c.loop-j.invariant.kept;
    }

pub visit_remainder-returns-in_err-found-clause-walked : goal.visit_remainder-returns-in_err-found-clause-walked
visit_remainder-returns-in_err-found-clause-walked t c =
    let visit = eliminate c.args.k in
    let p = c.args.split.now.p in
    let facts = c.args.self.now.facts.items in
    let d = c.args.split.now.d in
    let j = c.in_ok-at.at in
    let m0 = c.args.self.now.room in
    let e = c.in_err-found.field-0.0 in
    let told = c.in_ok-kept.ensures.formed.0 in
    let one = one_child (visit (children.far_child p facts j)) in
    let back : Valuation → Valuation = λ v. assigned p (far_at p facts (pos j) d v) v in
    let w = coming_back back (far_formed p facts (pos j) d) one in
    let zs = results (children.far_child_steps p facts j) in
    let E : List Fact → Type 0 = λ fs. IsCause e m0 (one_child (visit fs)).nodes (one_child (visit fs)).formed in
    let is : c.from_residual-in_err-found.result ≡ Err e = grind (arith, common_steps) in
    let below = back_first_err e m0 back (far_formed p facts (pos j) d) one (subst E told.1 c.in_err-found.ensures.walked.1) in
    let N : ℕ → Type 0 = λ n. IsCause e m0 (far_child_walk visit p facts d n).nodes (far_child_walk visit p facts d n).formed in
    let whole = far_child_walk visit p facts d c.args.j in
    counted_err _ e m0 c.visit_node.new.self.room whole.nodes whole.formed _ is (subst N c.in_ok-at.ensures.value (after_err e m0 zs w (after_fits m0 zs told.0) below))

pub visit_remainder-returns-clause-walked : goal.visit_remainder-returns-clause-walked
visit_remainder-returns-clause-walked t c =
    let k = c.args.k in
    let p = c.args.split.now.p in
    let facts = c.args.self.now.facts.items in
    let d = c.args.split.now.d in
    let j = c.in_ok-at.at in
    let m0 = c.args.self.now.room in
    let m2 = c.visit_node.new.self.room in
    let t0 = c.args.trees.now in
    let t2 = c.visit_node.new.trees in
    let r = c.back_far.result in
    let o = option_map valuation_of c.in_ok-found.found in
    let told = c.in_ok-kept.ensures.formed.0 in
    let W : List Fact → Type 0 = λ fs. IsAfter m2 m0 (one_child (eliminate k fs)).nodes (one_child (eliminate k fs)).formed × (found_by o t2 ≡ joined t0 (one_child (eliminate k fs)).found) in
    let both = subst W told.1 c.in_ok-found.ensures.walked.0 in
    let same : c.as_slice.result.now ≡ facts = c.as_slice.ensures.value ∙ c.restore.ensures ∙ ap (restored c.in_ok-kept.kept) c.in_ok-found.ensures.kept ∙ c.in_ok-kept.ensures.kept in
    let far = c.far_at-far in
    let J : ℕ → ℤ → ℤ → List Fact → Type 0 = λ q z y fs. Fits r (formed_of (far_formed q fs z y) o) (λ x. option_map valuation_of x ≡ option_map (λ v. assigned q (far_at q fs z y v) v) o) in
    let back = subst (J p (pos j) d) same (subst (λ y. J p (pos j) y c.as_slice.result.now) far.ensures.d (subst (λ z. J p z far.result.d c.as_slice.result.now) far.ensures.j (subst (λ q. J q far.result.j far.result.d c.as_slice.result.now) far.ensures.p c.back_far.ensures))) in
    let w = one_child (eliminate k (children.far_child p facts j)) in
    let zs = results (children.far_child_steps p facts j) in
    let N : ℕ → Type 0 = λ n. Walked r m0 m2 t0 t2 (far_child_walk (eliminate k) p facts d n) in
    subst N c.in_ok-at.ensures.value
    (walked_after r m2 m0 t2 t0 zs _ (after_fits m0 zs told.0)
    (back_walked r m2 m0 t2 t0 (λ v. assigned p (far_at p facts (pos j) d v) v) (far_formed p facts (pos j) d) w o both.0 both.1 back))

-- ---- the lower bounds
pub visit_bounds-loop-at-preserved : goal.visit_bounds-loop-at-preserved
visit_bounds-loop-at-preserved t c =
    let visit = eliminate c.args.k in
    let p = c.args.split.now.p in
    let facts = c.args.self.now.facts.items in
    let d = c.args.split.now.d in
    let i = c.loop-at.at in
    let m0 = c.loop-at.self.room in
    let m1 = c.visit_bound.new.self.room in
    let t0 = c.loop-at.trees in
    let t1 = c.visit_bound.new.trees in
    let o = option_map valuation_of c.in_ok-values.field-0 in
    let whole = bounds_walk visit p d facts facts in
    let B : List Fact → Walk = λ fs. bound_walk visit p fs (children.lower_bound p d (at_place fs i)) in
    let W : List Fact → Type 0 = λ fs. IsAfter m1 m0 (B fs).nodes (B fs).formed × (found_by o t1 ≡ joined t0 (B fs).found) in
    let told = subst W c.loop-at.invariant.kept c.in_ok-values.ensures.walked.0 in
    let none : closed t1 ≡ joined t0 (B facts).found = sym (ap (λ x. found_by (option_map valuation_of x) t1) c.in-None.is) ∙ told.1 in
    let within : i < length facts = omega arith in
    let next = at_drop_more (λ us. bounds_walk visit p d facts us) facts i blank within in
    record {
      walked = walk_next m1 m0 c.args.self.now.room t1 t0 c.args.trees.now (B facts) (bounds_walk visit p d facts (drop (i + 1) facts)) (bounds_walk visit p d facts (drop i facts)) whole c.loop-at.invariant.walked next told.0 none;
      kept = ◌∙◌ {A = List Fact} c.in_ok-values.ensures.kept c.loop-at.invariant.kept;
    }

pub visit_bounds-returns-in_err-values-clause-walked : goal.visit_bounds-returns-in_err-values-clause-walked
visit_bounds-returns-in_err-values-clause-walked t c =
    let visit = eliminate c.args.k in
    let p = c.args.split.now.p in
    let facts = c.args.self.now.facts.items in
    let d = c.args.split.now.d in
    let i = c.loop-at.at in
    let m0 = c.loop-at.self.room in
    let whole = bounds_walk visit p d facts facts in
    let e = c.in_err-values.field-0.0 in
    let is : c.from_residual.result ≡ Err e = grind (arith, common_steps) in
    let B : List Fact → Walk = λ fs. bound_walk visit p fs (children.lower_bound p d (at_place fs i)) in
    let E : List Fact → Type 0 = λ fs. IsCause e m0 (B fs).nodes (B fs).formed in
    let within : i < length facts = omega arith in
    let next = at_drop_more (λ us. bounds_walk visit p d facts us) facts i blank within in
    counted_err _ e c.args.self.now.room c.visit_bound.new.self.room whole.nodes whole.formed _ is
    (walk_err e m0 c.args.self.now.room c.loop-at.trees c.args.trees.now (B facts) (bounds_walk visit p d facts (drop (i + 1) facts)) (bounds_walk visit p d facts (drop i facts)) whole c.loop-at.invariant.walked next (subst E c.loop-at.invariant.kept c.in_err-values.ensures.walked.1))

pub visit_bounds-returns-in-Some-clause-walked : goal.visit_bounds-returns-in-Some-clause-walked
visit_bounds-returns-in-Some-clause-walked t c =
    let visit = eliminate c.args.k in
    let p = c.args.split.now.p in
    let facts = c.args.self.now.facts.items in
    let d = c.args.split.now.d in
    let i = c.loop-at.at in
    let m0 = c.loop-at.self.room in
    let m1 = c.visit_bound.new.self.room in
    let t0 = c.loop-at.trees in
    let t1 = c.visit_bound.new.trees in
    let o = option_map valuation_of c.in_ok-values.field-0 in
    let whole = bounds_walk visit p d facts facts in
    let B : List Fact → Walk = λ fs. bound_walk visit p fs (children.lower_bound p d (at_place fs i)) in
    let W : List Fact → Type 0 = λ fs. IsAfter m1 m0 (B fs).nodes (B fs).formed × (found_by o t1 ≡ joined t0 (B fs).found) in
    let told = subst W c.loop-at.invariant.kept c.in_ok-values.ensures.walked.0 in
    let found : satisfied (valuation_of c.in-Some.values) ≡ joined t0 (B facts).found = sym (ap (λ x. found_by (option_map valuation_of x) t1) c.in-Some.is) ∙ told.1 in
    let within : i < length facts = omega arith in
    let next = at_drop_more (λ us. bounds_walk visit p d facts us) facts i blank within in
    (walk_found m1 m0 c.args.self.now.room t0 c.args.trees.now (B facts) (bounds_walk visit p d facts (drop (i + 1) facts)) (bounds_walk visit p d facts (drop i facts)) whole (valuation_of c.in-Some.values) c.loop-at.invariant.walked next told.0 found, tt)

pub visit_bound-returns-in_err-bound-clause-walked : goal.visit_bound-returns-in_err-bound-clause-walked
visit_bound-returns-in_err-bound-clause-walked t c =
    let visit = eliminate c.args.k in
    let p = c.args.split.now.p in
    let facts = c.args.self.now.facts.items in
    let d = c.args.split.now.d in
    let f = at_place facts c.args.at in
    let m0 = c.args.self.now.room in
    let w = bound_walk visit p facts (children.lower_bound p d f) in
    let e = c.in_err-bound.field-0.0 in
    let is : c.from_residual.result ≡ Err e = grind (arith, common_steps) in
    let E : List Fact → Type 0 = λ fs. IsCause e 0 0 (results (children.bound_steps_of (children.lower_bound p d (at_place fs c.args.at)))) in
    counted_err _ e m0 m0 w.nodes w.formed _ is (bound_err e m0 visit p facts (children.lower_bound p d f) (bound_up p d f c.requires.d) (subst E c.as_slice.ensures.value c.in_err-bound.ensures.formed.1))

pub visit_bound-returns-in-Some-clause-walked : goal.visit_bound-returns-in-Some-clause-walked
visit_bound-returns-in-Some-clause-walked t c =
    let visit = eliminate c.args.k in
    let p = c.args.split.now.p in
    let facts = c.args.self.now.facts.items in
    let d = c.args.split.now.d in
    let f = at_place facts c.args.at in
    let m0 = c.args.self.now.room in
    let o = children.lower_bound p d f in
    let found = c.in_ok-bound.field-0 in
    let L : List Fact → Option children.Bound = λ fs. children.lower_bound p d (at_place fs c.args.at) in
    let T : List Fact → Type 0 = λ fs. (fit (results (children.bound_steps_of (L fs))) ≡ true) × (found ≡ option_map bound_of (L fs)) in
    let told = subst T c.as_slice.ensures.value c.in_ok-bound.ensures.formed.0 in
    bound_walked c.visit_points.result c.visit_points.new.self.room m0 c.visit_points.new.trees c.args.trees.now visit p facts o c.in-Some.bound c.whole_count-count.result (bound_up p d f c.requires.d) (sym c.in-Some.is ∙ told.1) (after_fits m0 (results (children.bound_steps_of o)) told.0) c.whole_count-count.ensures c.visit_points.ensures.walked

pub visit_bound-returns-in-None-clause-walked : goal.visit_bound-returns-in-None-clause-walked
visit_bound-returns-in-None-clause-walked t c =
    let d = c.args.split.now.d in
    let facts = c.args.self.now.facts.items in
    let L : List Fact → Option children.Bound = λ fs. children.lower_bound c.args.split.now.p d (at_place fs c.args.at) in
    let none = sym c.in-None.is ∙ c.in_ok-bound.ensures.formed.0.1 ∙ ap (λ fs. option_map bound_of (L fs)) c.as_slice.ensures.value in
    (bound_none c.args.self.now.room c.args.trees.now (eliminate c.args.k) c.args.split.now.p facts (L facts) none, tt)

-- ---- the test points
pub visit_points-returns-in_err-values-clause-walked : goal.visit_points-returns-in_err-values-clause-walked
visit_points-returns-in_err-values-clause-walked t c =
    let visit = eliminate c.args.k in
    let p = c.args.p in
    let facts = c.args.self.now.facts.items in
    let s = c.args.side.now in
    let n = c.args.count in
    let j = c.loop-j.j in
    let m0 = c.loop-j.self.room in
    let whole = points_walk visit p facts s (count_from 0 n) in
    let e = c.in_err-values.field-0.0 in
    let is : c.from_residual.result ≡ Err e = grind (arith, common_steps) in
    let E : List Fact → Type 0 = λ fs. IsCause e m0 (point_walk visit p fs s j).nodes (point_walk visit p fs s j).formed in
    counted_err _ e c.args.self.now.room c.visit_point.new.self.room whole.nodes whole.formed _ is
    (walk_err e m0 c.args.self.now.room c.loop-j.trees c.args.trees.now (point_walk visit p facts s j) (points_walk visit p facts s (count_from (j + 1) (n - (j + 1)))) (points_walk visit p facts s (count_from j (n - j))) whole c.loop-j.invariant.walked (ap (points_walk visit p facts s) (count_at n j c.loop-j-test.true)) (subst E c.loop-j.invariant.kept c.in_err-values.ensures.walked.1))

pub visit_points-returns-in-Some-clause-walked : goal.visit_points-returns-in-Some-clause-walked
visit_points-returns-in-Some-clause-walked t c =
    let visit = eliminate c.args.k in
    let p = c.args.p in
    let facts = c.args.self.now.facts.items in
    let s = c.args.side.now in
    let n = c.args.count in
    let j = c.loop-j.j in
    let m0 = c.loop-j.self.room in
    let m1 = c.visit_point.new.self.room in
    let t0 = c.loop-j.trees in
    let t1 = c.visit_point.new.trees in
    let o = option_map valuation_of c.in_ok-values.field-0 in
    let whole = points_walk visit p facts s (count_from 0 n) in
    let one = point_walk visit p facts s j in
    let W : List Fact → Type 0 = λ fs. IsAfter m1 m0 (point_walk visit p fs s j).nodes (point_walk visit p fs s j).formed × (found_by o t1 ≡ joined t0 (point_walk visit p fs s j).found) in
    let told = subst W c.loop-j.invariant.kept c.in_ok-values.ensures.walked.0 in
    let found : satisfied (valuation_of c.in-Some.values) ≡ joined t0 one.found = sym (ap (λ x. found_by (option_map valuation_of x) t1) c.in-Some.is) ∙ told.1 in
    (walk_found m1 m0 c.args.self.now.room t0 c.args.trees.now one (points_walk visit p facts s (count_from (j + 1) (n - (j + 1)))) (points_walk visit p facts s (count_from j (n - j))) whole (valuation_of c.in-Some.values) c.loop-j.invariant.walked (ap (points_walk visit p facts s) (count_at n j c.loop-j-test.true)) told.0 found, tt)

pub visit_points-loop-j-preserved : goal.visit_points-loop-j-preserved
visit_points-loop-j-preserved t c =
    let visit = eliminate c.args.k in
    let p = c.args.p in
    let facts = c.args.self.now.facts.items in
    let s = c.args.side.now in
    let n = c.args.count in
    let j = c.loop-j.j in
    let m0 = c.loop-j.self.room in
    let m1 = c.visit_point.new.self.room in
    let t0 = c.loop-j.trees in
    let t1 = c.visit_point.new.trees in
    let o = option_map valuation_of c.in_ok-values.field-0 in
    let whole = points_walk visit p facts s (count_from 0 n) in
    let one = point_walk visit p facts s j in
    let W : List Fact → Type 0 = λ fs. IsAfter m1 m0 (point_walk visit p fs s j).nodes (point_walk visit p fs s j).formed × (found_by o t1 ≡ joined t0 (point_walk visit p fs s j).found) in
    let told = subst W c.loop-j.invariant.kept c.in_ok-values.ensures.walked.0 in
    let none : closed t1 ≡ joined t0 one.found = sym (ap (λ x. found_by (option_map valuation_of x) t1) c.in-None.is) ∙ told.1 in
    record {
      walked = walk_next m1 m0 c.args.self.now.room t1 t0 c.args.trees.now one (points_walk visit p facts s (count_from (j + 1) (n - (j + 1)))) (points_walk visit p facts s (count_from j (n - j))) whole c.loop-j.invariant.walked (ap (points_walk visit p facts s) (count_at n j c.loop-j-test.true)) told.0 none;
      kept = ◌∙◌ {A = List Fact} c.in_ok-values.ensures.kept c.loop-j.invariant.kept;
    }

pub visit_point-returns-in_err-moved-clause-walked : goal.visit_point-returns-in_err-moved-clause-walked
visit_point-returns-in_err-moved-clause-walked t c =
    let visit = eliminate c.args.k in
    let p = c.args.p in
    let facts = c.args.self.now.facts.items in
    let s = c.args.side.now in
    let j = c.in_ok-at.at in
    let m0 = c.args.self.now.room in
    let e = c.in_err-moved.field-0.0 in
    let w = place_walk visit p facts (moved_by s j) in
    let zs = results (add_number_steps s.rest (pos j)) in
    let is : c.from_residual-in_err-moved.result ≡ Err e = grind (arith, common_steps) in
    let E : ℕ → Type 0 = λ n. IsCause e m0 (point_walk visit p facts s n).nodes (point_walk visit p facts s n).formed in
    let whole = point_walk visit p facts s c.args.j in
    counted_err _ e m0 m0 whole.nodes whole.formed _ is (subst E c.in_ok-at.ensures.value (before_fits e m0 zs w c.in_err-moved.ensures.formed.1))

pub visit_point-returns-clause-walked : goal.visit_point-returns-clause-walked
visit_point-returns-clause-walked t c =
    let visit = eliminate c.args.k in
    let p = c.args.p in
    let facts = c.args.self.now.facts.items in
    let s = c.args.side.now in
    let j = c.in_ok-at.at in
    let r = c.visit_place.result in
    let m0 = c.args.self.now.room in
    let m2 = c.visit_place.new.self.room in
    let t0 = c.args.trees.now in
    let t2 = c.visit_place.new.trees in
    let told = c.in_ok-moved.ensures.formed.0 in
    let zs = results (add_number_steps s.rest (pos j)) in
    let W : Side → Type 0 = λ e. Walked r m0 m2 t0 t2 (place_walk visit p facts e) in
    let N : ℕ → Type 0 = λ n. Walked r m0 m2 t0 t2 (point_walk visit p facts s n) in
    subst N c.in_ok-at.ensures.value
    (walked_after r m2 m0 t2 t0 zs (place_walk visit p facts (moved_by s j)) (after_fits m0 zs told.0) (subst W told.1 c.visit_place.ensures.walked))

-- ---- a node
pub visit_node-returns-in_err-take-clause-walked : goal.visit_node-returns-in_err-take-clause-walked
visit_node-returns-in_err-take-clause-walked t c =
    let k = c.args.k in
    let facts = c.args.self.now.facts.items in
    let m0 = c.args.self.now.room in
    let e = c.in_err-take.field-0.0 in
    let w = one_child (eliminate k facts) in
    let is : c.from_residual.result ≡ Err e = grind (arith, common_steps) in
    counted_err _ e m0 c.take.new.room w.nodes w.formed _ is (leaf_err e m0 k facts c.in_err-take.ensures.1)

pub visit_node-returns-clause-walked : goal.visit_node-returns-clause-walked
visit_node-returns-clause-walked t c =
    let k = c.args.k in
    let facts = c.args.self.now.facts.items in
    let none : c.in_ok-n.field-0 ≡ None = grind (arith, common_steps) in
    let up : 1 ≤ k = grind (arith, common_steps) in
    leaf_visited c.visit_open.result c.visit_open.new.self.room c.take.new.room c.args.self.now.room c.visit_open.new.trees c.args.trees.now k facts up c.in_ok-take.ensures.0.0 (sym none ∙ c.in_ok-n.ensures.value ∙ ap (position is_false) c.as_slice.ensures.value) c.visit_open.ensures.walked
