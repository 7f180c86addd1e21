use Rattle.std.proofs.Common.{◌≡◌, ◌≤◌, ◌+◌, ◌-◌, ◌∷◌, IsTrue, length, map, take, drop}
use Rattle.std.specs.List.{list_all}
use Rattle.lin_base.specs.Fact.{is_fact}
use Rattle.cert_tree.specs.Children.{with_each, residue_steps, residue_child, far_child, far_child_steps, point, point_steps}
use Rattle.cert_tree.specs.Stands.{tree_stands, each_stands, numbered_stand}
use Rattle.cert_tree.specs.Leasts.{points_stand, bounds_stand}
use Rattle.cert_tree.proofs.standing.+tree_stands.Given as goal

abbrev pub invariant-each_stands-loop-child : goal.invariant-each_stands-loop-child
invariant-each_stands-loop-child l = record {
  answer : each_stands l.initial.used (map (tree_stands l.pool.params l.pool.clauses) l.children) (with_each l.initial.facts l.fn.literals)
      ≡ each_stands l.initial.used (map (tree_stands l.pool.params l.pool.clauses) (drop l.child-index l.children)) (with_each l.initial.facts l.rest);
  used : l.used ≡ l.initial.used;
  facts : l.facts ≡ l.initial.facts;
  literals_are : IsTrue (list_all is_fact l.rest);
}

abbrev pub invariant-each_residue_stands-loop-i : goal.invariant-each_residue_stands-loop-i
invariant-each_residue_stands-loop-i l = record {
  answer : numbered_stand (residue_steps l.t) (residue_child l.initial.facts l.m l.t) l.initial.used 0 (map (tree_stands l.pool.params l.pool.clauses) l.children)
      ≡ numbered_stand (residue_steps l.t) (residue_child l.initial.facts l.m l.t) l.initial.used l.i (map (tree_stands l.pool.params l.pool.clauses) (drop l.i l.children));
  used : l.used ≡ l.initial.used;
  facts : l.facts ≡ l.initial.facts;
}

abbrev pub invariant-far_stand-loop-j : goal.invariant-far_stand-loop-j
invariant-far_stand-loop-j l = record {
  answer : numbered_stand (far_child_steps l.p l.facts) (far_child l.p l.facts) (l.p ∷ l.initial.used) 0 (map (tree_stands l.pool.params l.pool.clauses) l.children)
      ≡ numbered_stand (far_child_steps l.p l.facts) (far_child l.p l.facts) (l.p ∷ l.initial.used) l.j (map (tree_stands l.pool.params l.pool.clauses) (drop l.j l.children));
  used : l.used ≡ l.initial.used;
}

abbrev pub invariant-points_stand-loop-j : goal.invariant-points_stand-loop-j
invariant-points_stand-loop-j l = record {
  answer : points_stand l.p l.facts (l.p ∷ l.initial.used) l.side.b l.side.rest (map (tree_stands l.pool.params l.pool.clauses) (take l.count (drop l.start l.children)))
      ≡ numbered_stand (point_steps l.p l.facts l.side.b l.side.rest) (point l.p l.facts l.side.b l.side.rest) (l.p ∷ l.initial.used) l.j (map (tree_stands l.pool.params l.pool.clauses) (take (l.count - l.j) (drop (l.start + l.j) l.children)));
  used : l.used ≡ l.initial.used;
}

abbrev pub invariant-bounds_stand-loop-fact : goal.invariant-bounds_stand-loop-fact
invariant-bounds_stand-loop-fact l = record {
  answer : bounds_stand l.p l.d l.facts (l.p ∷ l.initial.used) l.facts (map (tree_stands l.pool.params l.pool.clauses) l.children)
      ≡ bounds_stand l.p l.d l.facts (l.p ∷ l.initial.used) (drop l.fact-index l.facts) (map (tree_stands l.pool.params l.pool.clauses) (drop l.start l.children));
  within : l.start ≤ length l.children;
  used : l.used ≡ l.initial.used;
}
