use Rattle.std.proofs.Common.{◌≡◌, ◌*◌, ◌+◌, length, drop}
use Rattle.cert_tree.specs.Search.{searched}
use Rattle.cooper.specs.Walks.{literals_walk}
use Rattle.cooper.proofs.Walking.{DueWalk}
use Rattle.cooper.proofs.search.Search.+visit_clauses.Given as goal

abbrev pub decreases-visit_clauses : goal.decreases-visit_clauses
decreases-visit_clauses l = 3 * length l.clauses.now

abbrev pub decreases-visit_literal : goal.decreases-visit_literal
decreases-visit_literal l = 3 * length l.clauses.now + 1

abbrev pub decreases-visit_literals : goal.decreases-visit_literals
decreases-visit_literals l = 3 * length l.clauses.now + 2

abbrev pub invariant-visit_literals-loop-literal : goal.invariant-visit_literals-loop-literal
invariant-visit_literals-loop-literal l = record {
  walked : DueWalk l.self.room l.initial.self.room l.trees l.initial.trees (literals_walk (searched l.clauses) l.initial.self.facts.items (drop l.literal-index l.literals)) (literals_walk (searched l.clauses) l.initial.self.facts.items l.literals);
  kept : l.self.facts.items ≡ l.initial.self.facts.items;
}
