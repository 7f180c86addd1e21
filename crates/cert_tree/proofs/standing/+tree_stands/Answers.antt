use Rattle.std.proofs.Common.{◌≡◌, ◌∙◌, ap, refl, sym, subst, take, drop, ◌+◌, ◌-◌, Some, true, false, pos, ◌≤ℤ◌, ◌++◌, ◌∷◌, [], length, map, Option, IfOk, IfSome, Bool, ℤ, List, arith, to_z, of_z}
use Rattle.std.specs.Prelude.{int_lt}
use Rattle.std.specs.Int.{w128}
use Rattle.std.proofs.lemmas.Int.{ints, to_z-of_z}
use Rattle.std.proofs.lemmas.List.{length-map}
use Rattle.std.proofs.lemmas.Grind.{common_steps}
use Rattle.lin_base.specs.declared.facts.Fact.{Fact}
use Rattle.lin_base.proofs.Ring.{le_in}
use Rattle.cert_tree.proofs.Bounding.{taken_next, bound_takes, bounds_on, bounds_end, least-wide, least-bounds, least-far, least-far_count}
use Rattle.cert_tree.specs.Children.{lower_bound, residue, residue_steps, residue_child, far_child, far_child_steps, point, point_steps}
use Rattle.cert_tree.specs.declared.certs.Tree.{Tree}
use Rattle.cert_tree.specs.Leasts.{is_count, bound_stands, bounds_stand}
use Rattle.cert_tree.specs.Stands.{tree_stands, numbered_stand, least_stands}
use Rattle.cert_tree.proofs.Nodes.{stands-least}
use Rattle.cert_tree.proofs.Truth.{if_narrow_out}
use Rattle.cert_tree.proofs.UsedUp.{stands_marked}
use Rattle.cert_tree.proofs.Numbered.{numbered_on, numbered_next, numbered_wide, numbered_not, residues_numbered, count_of}
use Rattle.cert_tree.proofs.standing.+tree_stands.Goals as goal

pub stands_without-returns-clause-answer : goal.stands_without-returns-clause-answer
stands_without-returns-clause-answer t c =
    let params = c.args.pool.now.params in
    let clauses = c.args.pool.now.clauses in
    let tree = c.args.tree.now in
    let fs = c.args.facts.now in
    c.in_ok-yes.ensures.answer ∙ ap (λ us. tree_stands params clauses tree us fs) c.in_ok-add.ensures ∙ stands_marked params clauses tree c.args.used.now c.args.p fs

pub each_residue_stands-loop-i-preserved : goal.each_residue_stands-loop-i-preserved
each_residue_stands-loop-i-preserved t c =
    let m = to_z w128 (of_z w128 c.args.m) in
    let u = c.args.t.now in
    let fs = c.args.facts.now in
    let i = c.loop-i.i in
    let child = c.index-children-i.result in
    let fact = c.in-Some.fact in
    let node = tree_stands c.args.pool.now.params c.args.pool.now.clauses in
    let made = (if_narrow_out (residue_steps u i) (residue m u i) fact (sym c.in_ok-fact.ensures.value ∙ c.in-Some.is)).1 in
    let same : c.loop-i.facts ++ fact ∷ [] ≡ residue_child fs m u i = ap (λ gs. gs ++ fact ∷ []) c.loop-i.invariant.facts ∙ ap (λ f. fs ++ f ∷ []) (sym made) in
    let stood : node child c.args.used.now (residue_child fs m u i) ≡ true = ap (node child c.args.used.now) (sym same) ∙ ap (λ ws. node child ws (c.loop-i.facts ++ fact ∷ [])) (sym c.loop-i.invariant.used) ∙ sym c.in_ok-stands_with.ensures.answer ∙ c.if-not-branch.false in
    record {
      answer = c.loop-i.invariant.answer
          ∙ numbered_on (residue_steps u) (residue_child fs m u) c.args.used.now node c.args.children.now i child c.in_ok-fact.field-0 (residue m u i) fact c.loop-i-test.true c.index-children-i.is c.in_ok-fact.ensures.value c.in-Some.is stood;
      used = grind (arith, common_steps);
      facts = grind (arith, common_steps);
    }

pub residues_stand-returns-clause-answer : goal.residues_stand-returns-clause-answer
residues_stand-returns-clause-answer t c =
    let m = c.args.m in
    let u = c.args.t.now in
    let fs = c.args.facts.now in
    let used = c.args.used.now in
    let nodes = map (tree_stands c.args.pool.now.params c.args.pool.now.clauses) c.args.children.now in
    let k = to_z-of_z _ _ c.ranges.m in
    let low : int_lt m (pos 2) ≡ false = subst (λ (z : ℤ). int_lt z (pos 2) ≡ false) k c.if-m-lt2.false in
    let two : pos 2 ≤ℤ m = omega (arith, ints, low) in
    let count : m ≡ pos (length nodes) = count_of m (of_z w128 m) (length c.args.children.now) k two c.if-children-m.false ∙ ap pos (sym (length-map c.args.children.now (tree_stands c.args.pool.now.params c.args.pool.now.clauses))) in
    let is = sym c.is_lin.ensures ∙ c.if-not-is_lin.false in
    let free = sym c.is_over_free.ensures ∙ c.if-not-is_over_free.false in
    let whole = residues_numbered c.args.pool.now.params m u nodes used fs (le_in (pos 2) m two) is free count in
    let P : ℤ → Type 0 = λ z. IfOk c.each_residue_stands.result (λ b. b ≡ numbered_stand (residue_steps u) (residue_child fs z u) used 0 nodes) in
    let Q : Bool → Type 0 = λ a. IfOk c.each_residue_stands.result (λ b. b ≡ a) in
    subst Q (sym whole) (subst P k c.each_residue_stands.ensures.answer)

pub far_stand-loop-j-preserved : goal.far_stand-loop-j-preserved
far_stand-loop-j-preserved t c =
    let p = c.args.p in
    let fs = c.args.facts.now in
    let j = c.loop-j.j in
    let child = c.index-children-j.result in
    let made = c.in-Some.made in
    let us = p ∷ c.args.used.now in
    let node = tree_stands c.args.pool.now.params c.args.pool.now.clauses in
    let is = (if_narrow_out (far_child_steps p fs j) (far_child p fs j) made (sym c.in_ok-made.ensures.value ∙ c.in-Some.is)).1 in
    let stood : node child us (far_child p fs j) ≡ true = ap (node child us) is ∙ ap (λ ws. node child (p ∷ ws) made) (sym c.loop-j.invariant.used) ∙ sym c.in_ok-stands_without.ensures.answer ∙ c.if-not-branch.false in
    record {
      answer = c.loop-j.invariant.answer
          ∙ numbered_on (far_child_steps p fs) (far_child p fs) us node c.args.children.now j child c.in_ok-made.field-0 (far_child p fs j) made c.loop-j-test.true c.index-children-j.is c.in_ok-made.ensures.value c.in-Some.is stood;
      used = grind (arith, common_steps);
    }

pub points_stand-loop-j-preserved : goal.points_stand-loop-j-preserved
points_stand-loop-j-preserved t c =
    let p = c.args.p in
    let fs = c.args.facts.now in
    let b = c.args.side.now.b in
    let s = c.args.side.now.rest in
    let ts = c.args.children.now in
    let start = c.args.start in
    let n = c.args.count in
    let j = c.loop-j.j in
    let child = c.index-children-start.result in
    let made = c.in-Some.made in
    let us = p ∷ c.args.used.now in
    let node = tree_stands c.args.pool.now.params c.args.pool.now.clauses in
    let is = (if_narrow_out (point_steps p fs b s j) (point p fs b s j) made (sym c.in_ok-made.ensures.value ∙ c.in-Some.is)).1 in
    let stood : node child us (point p fs b s j) ≡ true = ap (node child us) is ∙ ap (λ ws. node child (p ∷ ws) made) (sym c.loop-j.invariant.used) ∙ sym c.in_ok-stands_without.ensures.answer ∙ c.if-not-branch.false in
    record {
      answer = c.loop-j.invariant.answer
          ∙ numbered_next (point_steps p fs b s) (point p fs b s) us node (take (n - j) (drop (start + j) ts)) (take (n - (j + 1)) (drop (start + (j + 1)) ts)) j child c.in_ok-made.field-0 (point p fs b s j) made (taken_next ts start n j child c.loop-j-test.true c.requires.within c.index-children-start.is) c.in_ok-made.ensures.value c.in-Some.is stood;
      used = grind (arith, common_steps);
    }

pub points_stand-returns-in_default-clause-answer : goal.points_stand-returns-in_default-clause-answer
points_stand-returns-in_default-clause-answer t c =
    let p = c.args.p in
    let fs = c.args.facts.now in
    let b = c.args.side.now.b in
    let s = c.args.side.now.rest in
    let ts = c.args.children.now in
    let start = c.args.start in
    let n = c.args.count in
    let j = c.loop-j.j in
    let child = c.index-children-start.result in
    let us = p ∷ c.args.used.now in
    let node = tree_stands c.args.pool.now.params c.args.pool.now.clauses in
    sym (c.loop-j.invariant.answer
    ∙ numbered_wide (point_steps p fs b s) (point p fs b s) us node (take (n - j) (drop (start + j) ts)) (take (n - (j + 1)) (drop (start + (j + 1)) ts)) j child c.in_ok-made.field-0 (point p fs b s j) (taken_next ts start n j child c.loop-j-test.true c.requires.within c.index-children-start.is) c.in_ok-made.ensures.value c.in_default.is)

pub points_stand-returns-then-not-branch-clause-answer : goal.points_stand-returns-then-not-branch-clause-answer
points_stand-returns-then-not-branch-clause-answer t c =
    let p = c.args.p in
    let fs = c.args.facts.now in
    let b = c.args.side.now.b in
    let s = c.args.side.now.rest in
    let ts = c.args.children.now in
    let start = c.args.start in
    let n = c.args.count in
    let j = c.loop-j.j in
    let child = c.index-children-start.result in
    let made = c.in-Some.made in
    let us = p ∷ c.args.used.now in
    let node = tree_stands c.args.pool.now.params c.args.pool.now.clauses in
    let is = (if_narrow_out (point_steps p fs b s j) (point p fs b s j) made (sym c.in_ok-made.ensures.value ∙ c.in-Some.is)).1 in
    let fell : node child us (point p fs b s j) ≡ false = ap (node child us) is ∙ ap (λ ws. node child (p ∷ ws) made) (sym c.loop-j.invariant.used) ∙ sym c.in_ok-stands_without.ensures.answer ∙ c.if-not-branch.true in
    sym (c.loop-j.invariant.answer
    ∙ numbered_not (point_steps p fs b s) (point p fs b s) us node (take (n - j) (drop (start + j) ts)) (take (n - (j + 1)) (drop (start + (j + 1)) ts)) j child (taken_next ts start n j child c.loop-j-test.true c.requires.within c.index-children-start.is) fell)

pub bounds_stand-returns-clause-answer : goal.bounds_stand-returns-clause-answer
bounds_stand-returns-clause-answer t c =
    let node = tree_stands c.args.pool.now.params c.args.pool.now.clauses in
    sym (c.loop-fact.invariant.answer ∙ bounds_end c.args.p c.args.d.now c.args.facts.now (c.args.p ∷ c.args.used.now) node c.args.children.now c.loop-fact.start c.loop-fact.fact-index c.loop-fact-test.false c.loop-fact.invariant.within)

pub bound_stands-returns-then-branch-clause-count : goal.bound_stands-returns-then-branch-clause-count
bound_stands-returns-then-branch-clause-count t c =
    let node = tree_stands c.args.pool.now.params c.args.pool.now.clauses in
    let ts = c.args.children.now in
    let start = c.args.start in
    sym (bound_takes c.args.p c.args.facts.now (c.args.p ∷ c.args.used.now) (map node (drop start ts)) node ts start c.in-Some-count_within.count (lower_bound c.args.p c.args.d.now c.args.fact.now) c.in_ok-found.field-0 c.in-Some-found.bound c.count_within.result true refl c.in_ok-found.ensures.value (c.in-Some.is ∙ ap Some c.in-Some-found.is) c.count_within.ensures.value c.in-Some-count_within.is (sym c.if-branch.true ∙ c.in_ok-points_stand.ensures.answer))

pub bound_stands-returns-clause-count : goal.bound_stands-returns-clause-count
bound_stands-returns-clause-count t c =
    let node = tree_stands c.args.pool.now.params c.args.pool.now.clauses in
    let ts = c.args.children.now in
    let start = c.args.start in
    sym (bound_takes c.args.p c.args.facts.now (c.args.p ∷ c.args.used.now) (map node (drop start ts)) node ts start c.in-Some-count_within.count (lower_bound c.args.p c.args.d.now c.args.fact.now) c.in_ok-found.field-0 c.in-Some-found.bound c.count_within.result false refl c.in_ok-found.ensures.value (c.in-Some.is ∙ ap Some c.in-Some-found.is) c.count_within.ensures.value c.in-Some-count_within.is (sym c.if-branch.false ∙ c.in_ok-points_stand.ensures.answer))

pub bounds_stand-loop-fact-preserved : goal.bounds_stand-loop-fact-preserved
bounds_stand-loop-fact-preserved t c =
    let node = tree_stands c.args.pool.now.params c.args.pool.now.clauses in
    let p = c.args.p in
    let fs = c.args.facts.now in
    let found = ap (λ ws. bound_stands p fs (p ∷ ws) (lower_bound p c.args.d.now c.fact-item.result) (map node (drop c.loop-fact.start c.args.children.now))) (sym c.loop-fact.invariant.used) ∙ sym c.in_ok-count.ensures.count ∙ c.in-Some.is in
    record {
      answer = c.loop-fact.invariant.answer ∙ bounds_on p c.args.d.now fs (p ∷ c.args.used.now) node c.args.children.now c.loop-fact.start c.loop-fact.fact-index c.fact-item.result c.in-Some.count c.loop-fact-test.true c.fact-item.is found;
      within = grind (arith, common_steps);
      used = grind (arith, common_steps);
    }

pub least_stands-returns-in_default-clause-answer : goal.least_stands-returns-in_default-clause-answer
least_stands-returns-in_default-clause-answer t c =
    let nodes = map (tree_stands c.args.pool.now.params c.args.pool.now.clauses) c.args.children.now in
    let free = sym c.is_free.ensures ∙ c.if-not-is_free.false in
    sym (least-wide c.args.pool.now.params c.args.p nodes c.args.used.now c.args.facts.now (pos 1) free c.in_ok-d.field-0 c.in_ok-d.ensures.value c.in_default.is)

pub least_stands-returns-then-has_lower_bound-clause-answer : goal.least_stands-returns-then-has_lower_bound-clause-answer
least_stands-returns-then-has_lower_bound-clause-answer t c =
    let p = c.args.p in
    let fs = c.args.facts.now in
    let used = c.args.used.now in
    let params = c.args.pool.now.params in
    let node = tree_stands params c.args.pool.now.clauses in
    let nodes = map node c.args.children.now in
    let free = sym c.is_free.ensures ∙ c.if-not-is_free.false in
    let d = c.in-Some.d in
    let e : to_z w128 (of_z w128 d) ≡ d = grind (arith, common_steps, to_z-of_z) in
    let up = let U : Option ℤ → Type 0 = λ o. IfSome o (λ z. pos 1 ≤ℤ z) in subst U c.in-Some.is c.in_ok-d.ensures.positive in
    let whole = least-bounds params p nodes used fs d free c.in_ok-d.field-0 c.in_ok-d.ensures.value c.in-Some.is up (sym c.has_lower_bound.ensures ∙ c.if-has_lower_bound.true) in
    let P : ℤ → Type 0 = λ z. IfOk c.bounds_stand.result (λ b. b ≡ bounds_stand p z fs (p ∷ used) fs nodes) in
    let Q : Bool → Type 0 = λ a. IfOk c.bounds_stand.result (λ b. b ≡ a) in
    subst Q (sym whole) (subst P e c.bounds_stand.ensures.answer)

pub least_stands-returns-then-not-is_count-clause-answer : goal.least_stands-returns-then-not-is_count-clause-answer
least_stands-returns-then-not-is_count-clause-answer t c =
    let p = c.args.p in
    let fs = c.args.facts.now in
    let used = c.args.used.now in
    let params = c.args.pool.now.params in
    let node = tree_stands params c.args.pool.now.clauses in
    let nodes = map node c.args.children.now in
    let free = sym c.is_free.ensures ∙ c.if-not-is_free.false in
    let d = c.in-Some.d in
    let e : to_z w128 (of_z w128 d) ≡ d = grind (arith, common_steps, to_z-of_z) in
    let up = let U : Option ℤ → Type 0 = λ o. IfSome o (λ z. pos 1 ≤ℤ z) in subst U c.in-Some.is c.in_ok-d.ensures.positive in
    let count = ap (is_count d) (length-map c.args.children.now node) ∙ ap (λ z. is_count z (length c.args.children.now)) (sym e) ∙ sym c.is_count.ensures ∙ c.if-not-is_count.true in
    sym (least-far_count params p nodes used fs d free c.in_ok-d.field-0 c.in_ok-d.ensures.value c.in-Some.is up (sym c.has_lower_bound.ensures ∙ c.if-has_lower_bound.false) count)

pub least_stands-returns-clause-answer : goal.least_stands-returns-clause-answer
least_stands-returns-clause-answer t c =
    let p = c.args.p in
    let fs = c.args.facts.now in
    let used = c.args.used.now in
    let params = c.args.pool.now.params in
    let node = tree_stands params c.args.pool.now.clauses in
    let nodes = map node c.args.children.now in
    let free = sym c.is_free.ensures ∙ c.if-not-is_free.false in
    let d = c.in-Some.d in
    let e : to_z w128 (of_z w128 d) ≡ d = grind (arith, common_steps, to_z-of_z) in
    let up = let U : Option ℤ → Type 0 = λ o. IfSome o (λ z. pos 1 ≤ℤ z) in subst U c.in-Some.is c.in_ok-d.ensures.positive in
    let count = ap (is_count d) (length-map c.args.children.now node) ∙ ap (λ z. is_count z (length c.args.children.now)) (sym e) ∙ sym c.is_count.ensures ∙ c.if-not-is_count.false in
    let whole = least-far params p nodes used fs d free c.in_ok-d.field-0 c.in_ok-d.ensures.value c.in-Some.is up (sym c.has_lower_bound.ensures ∙ c.if-has_lower_bound.false) count in
    let Q : Bool → Type 0 = λ a. IfOk c.far_stand.result (λ b. b ≡ a) in
    subst Q (sym whole) c.far_stand.ensures.answer

pub tree_stands-returns-in-Least-clause-answer : goal.tree_stands-returns-in-Least-clause-answer
unfolding Rattle.cert_tree.specs.declared.certs.Tree.TheViews.roll-Tree denote.Hole.Carrier.roll
tree_stands-returns-in-Least-clause-answer t c =
    let used = c.args.used.now in
    let params = c.args.pool.now.params in
    let clauses = c.args.pool.now.clauses in
    let fs = c.args.facts.now in
    let node = tree_stands params clauses in
    let whole = ap (λ (x : Tree). tree_stands params clauses x used fs) c.in-Least.is ∙ stands-least params clauses used fs c.in-Least.p c.in-Least.children in
    let P : List Fact → Type 0 = λ gs. IfOk c.least_stands.result (λ b. b ≡ least_stands params c.in-Least.p (map node c.as_slice-in-Least-2.result.now) used gs) in
    let R : List Tree → Type 0 = λ ts. IfOk c.least_stands.result (λ b. b ≡ least_stands params c.in-Least.p (map node ts) used fs) in
    let Q : Bool → Type 0 = λ a. IfOk c.least_stands.result (λ b. b ≡ a) in
    subst Q (sym whole) (subst R c.as_slice-in-Least-2.ensures (subst P c.as_slice-in-Least.ensures c.least_stands.ensures.answer))
