use Rattle.std.proofs.Common.{◌≡◌, IsTrue, drop}
use Rattle.lin_base.specs.Fact.{is_lin}
use Rattle.cert_tree.specs.Children as spec
use Rattle.cert_tree.proofs.Combinations.{combination_onto}
use Rattle.cert_tree.proofs.children.combination.Given as goal

abbrev pub invariant-loop-part : goal.invariant-loop-part
invariant-loop-part l = record {
  value : spec.combination l.facts l.list ≡ combination_onto l.sum l.facts (drop l.part-index l.list);
  well_formed : IsTrue (is_lin l.sum);
}
