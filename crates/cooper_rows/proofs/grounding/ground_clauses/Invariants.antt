use Rattle.std.proofs.Common.{drop, length, IsTrue}
use Rattle.std.specs.List.{enumerate_from}
use Rattle.cert_tree.specs.Ground.{ground_clause, ground_each}
use Rattle.cooper_rows.specs.Rows.{are_facts}
use Rattle.cooper_rows.proofs.Grounds.{DueGround}
use Rattle.cooper_rows.proofs.grounding.ground_clauses.Given as goal

abbrev pub invariant-loop-clause : goal.invariant-loop-clause
invariant-loop-clause l = record {
  due : DueGround l.room l.initial.room l.made (ground_each (ground_clause l.params) l.after (enumerate_from l.number (drop l.clause-index l.clauses))) (ground_each (ground_clause l.params) (length l.clauses) (enumerate_from 0 l.clauses));
  well_formed : IsTrue (are_facts l.made.clauses);
}
