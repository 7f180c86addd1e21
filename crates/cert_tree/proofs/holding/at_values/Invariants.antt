use Rattle.std.proofs.Common.{◌≡◌, IsTrue, drop}
use Rattle.std.specs.List.{list_all}
use Rattle.lin_base.specs.Fact.{is_fact}
use Rattle.cert_tree.proofs.ValueChecks.{put_onto}
use Rattle.cert_tree.proofs.holding.at_values.Given as goal

abbrev pub invariant-loop-p : goal.invariant-loop-p
invariant-loop-p l = record {
  value : put_onto 0 l.values l.clause ≡ put_onto l.p (drop l.p l.values) l.put;
  well_formed : IsTrue (list_all is_fact l.put);
}
