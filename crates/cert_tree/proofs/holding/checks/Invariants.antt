use Rattle.std.proofs.Common.{◌≡◌, drop}
use Rattle.std.specs.List.{list_all}
use Rattle.cert_tree.specs.Holds as spec
use Rattle.cert_tree.proofs.holding.checks.Given as goal

abbrev pub invariant-loop-clause : goal.invariant-loop-clause
invariant-loop-clause l = list_all (spec.clause_checks l.pool.params l.values) l.pool.clauses ≡ list_all (spec.clause_checks l.pool.params l.values) (drop l.clause-index l.clause-items)
