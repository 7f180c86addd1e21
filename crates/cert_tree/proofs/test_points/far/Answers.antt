use Rattle.std.proofs.Common.{IsTrue, List}
use Rattle.std.specs.List.{list_all}
use Rattle.lin_base.specs.declared.facts.Fact.{Fact}
use Rattle.lin_base.specs.Fact.{is_fact}
use Rattle.lin_base.proofs.Forming.{Forms-value}
use Rattle.cert_tree.specs.Children as spec
use Rattle.cert_tree.proofs.Forming.{narrow_keeps}
use Rattle.cert_tree.proofs.Pointing.{is_fact-far_child}
use Rattle.cert_tree.proofs.test_points.far.Goals as goal

pub returns-clause-well_formed : goal.returns-clause-well_formed
returns-clause-well_formed c =
    let p = c.args.p in
    let fs = c.args.facts.now in
    let P : List Fact → Type 0 = λ gs. IsTrue (list_all is_fact gs) in
    narrow_keeps P c.formed_far.result c.narrow.result (Forms-value P c.formed_far.result (spec.far_child_steps p fs c.args.j) (spec.far_child p fs c.args.j) c.formed_far.ensures (is_fact-far_child p fs c.args.j c.requires)) c.narrow.ensures.value
