use Rattle.std.proofs.Common.{◌≡◌, ◌*◌, ◌+◌, length, drop}
use Rattle.std.specs.List.{list_all}
use Rattle.cert_tree.specs.Holds as spec
use Rattle.cert_tree.proofs.holding.+ground_holds.Given as goal

abbrev pub decreases-ground_holds : goal.decreases-ground_holds
decreases-ground_holds l = 2 * length l.variables.now

abbrev pub decreases-each_ground_holds : goal.decreases-each_ground_holds
decreases-each_ground_holds l = 2 * length l.variables.now + 1

abbrev pub invariant-each_ground_holds-loop-clause : goal.invariant-each_ground_holds-loop-clause
invariant-each_ground_holds-loop-clause l = list_all (spec.ground_holds l.variables) l.clauses ≡ list_all (spec.ground_holds l.variables) (drop l.clause-index l.clauses)
