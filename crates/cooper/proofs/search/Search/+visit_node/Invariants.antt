use Rattle.std.proofs.Common.{◌≡◌, ◌*◌, ◌+◌, ◌-◌, drop}
use Rattle.cert_tree.specs.Counting.{count_from}
use Rattle.cert_tree.specs.Search.{eliminate}
use Rattle.cooper.specs.Walks.{far_walk, bounds_walk, points_walk}
use Rattle.cooper.proofs.Walking.{DueWalk}
use Rattle.cooper.proofs.search.Search.+visit_node.Given as goal

abbrev pub decreases-visit_node : goal.decreases-visit_node
decreases-visit_node l = 12 * l.k

abbrev pub decreases-visit_place : goal.decreases-visit_place
decreases-visit_place l = 12 * l.k + 1

abbrev pub decreases-visit_remainder : goal.decreases-visit_remainder
decreases-visit_remainder l = 12 * l.k + 2

abbrev pub decreases-visit_point : goal.decreases-visit_point
decreases-visit_point l = 12 * l.k + 3

abbrev pub decreases-visit_solved : goal.decreases-visit_solved
decreases-visit_solved l = 12 * l.k + 2

abbrev pub decreases-visit_points : goal.decreases-visit_points
decreases-visit_points l = 12 * l.k + 4

abbrev pub decreases-visit_bound : goal.decreases-visit_bound
decreases-visit_bound l = 12 * l.k + 5

abbrev pub decreases-visit_bounds : goal.decreases-visit_bounds
decreases-visit_bounds l = 12 * l.k + 6

abbrev pub decreases-visit_far : goal.decreases-visit_far
decreases-visit_far l = 12 * l.k + 7

abbrev pub decreases-visit_split : goal.decreases-visit_split
decreases-visit_split l = 12 * l.k + 8

abbrev pub decreases-visit_least : goal.decreases-visit_least
decreases-visit_least l = 12 * l.k + 9

abbrev pub decreases-visit_open : goal.decreases-visit_open
decreases-visit_open l = 12 * l.k + 10

abbrev pub invariant-visit_far-loop-j : goal.invariant-visit_far-loop-j
invariant-visit_far-loop-j l = record {
  walked : DueWalk l.self.room l.initial.self.room l.trees l.initial.trees (far_walk (eliminate l.k) l.split.p l.initial.self.facts.items l.split.d (count_from l.j (l.count - l.j))) (far_walk (eliminate l.k) l.split.p l.initial.self.facts.items l.split.d (count_from 0 l.count));
  kept : l.self.facts.items ≡ l.initial.self.facts.items;
}

abbrev pub invariant-visit_bounds-loop-at : goal.invariant-visit_bounds-loop-at
invariant-visit_bounds-loop-at l = record {
  walked : DueWalk l.self.room l.initial.self.room l.trees l.initial.trees (bounds_walk (eliminate l.k) l.split.p l.split.d l.initial.self.facts.items (drop l.at l.initial.self.facts.items)) (bounds_walk (eliminate l.k) l.split.p l.split.d l.initial.self.facts.items l.initial.self.facts.items);
  kept : l.self.facts.items ≡ l.initial.self.facts.items;
}

abbrev pub invariant-visit_points-loop-j : goal.invariant-visit_points-loop-j
invariant-visit_points-loop-j l = record {
  walked : DueWalk l.self.room l.initial.self.room l.trees l.initial.trees (points_walk (eliminate l.k) l.p l.initial.self.facts.items l.side (count_from l.j (l.count - l.j))) (points_walk (eliminate l.k) l.p l.initial.self.facts.items l.side (count_from 0 l.count));
  kept : l.self.facts.items ≡ l.initial.self.facts.items;
}
