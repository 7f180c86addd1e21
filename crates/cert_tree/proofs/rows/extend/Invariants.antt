use Rattle.std.proofs.Common.{◌≡◌, IsTrue, drop}
use Rattle.lin_base.specs.Fact.{is_pool}
use Rattle.cert_tree.specs.Rows as spec
use Rattle.cert_tree.proofs.rows.extend.Given as goal

abbrev pub invariant-loop-row : goal.invariant-loop-row
invariant-loop-row l = record {
  clauses : spec.extended l.pool.params l.rows l.pool.clauses ≡ spec.extended l.pool.params (drop l.row-index l.rows) l.longer.clauses;
  params : l.longer.params ≡ l.pool.params;
  well_formed : IsTrue (is_pool l.longer);
}
