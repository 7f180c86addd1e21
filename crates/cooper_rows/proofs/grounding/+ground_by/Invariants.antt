use Rattle.std.proofs.Common.{◌*◌, ◌+◌, length, drop, IsTrue}
use Rattle.std.specs.List.{enumerate_from}
use Rattle.cert_tree.specs.Ground.{ground_by, ground_each}
use Rattle.cooper_rows.specs.Rows.{are_facts}
use Rattle.cooper_rows.proofs.Grounds.{DueGround}
use Rattle.cooper_rows.proofs.grounding.+ground_by.Given as goal

abbrev pub decreases-ground_by : goal.decreases-ground_by
decreases-ground_by l = 2 * length l.variables.now

abbrev pub decreases-ground_each : goal.decreases-ground_each
decreases-ground_each l = 2 * length l.variables.now + 1

abbrev pub invariant-ground_each-loop-clause : goal.invariant-ground_each-loop-clause
invariant-ground_each-loop-clause l = record {
  due : DueGround l.room l.initial.room l.made (ground_each (ground_by l.variables) l.after (enumerate_from l.number (drop l.clause-index l.clauses))) (ground_each (ground_by l.variables) l.next (enumerate_from l.first l.clauses));
  well_formed : IsTrue (are_facts l.made.clauses);
}
