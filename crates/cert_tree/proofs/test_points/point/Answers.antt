use Rattle.std.proofs.Common.{IsTrue, List}
use Rattle.std.specs.List.{list_all}
use Rattle.lin_base.specs.declared.facts.Fact.{Fact}
use Rattle.lin_base.specs.Fact.{is_fact}
use Rattle.lin_base.proofs.Forming.{Forms-value}
use Rattle.cert_tree.specs.Children as spec
use Rattle.cert_tree.proofs.Forming.{narrow_keeps}
use Rattle.cert_tree.proofs.Pointing.{is_fact-point}
use Rattle.cert_tree.proofs.test_points.point.Goals as goal

pub returns-clause-well_formed : goal.returns-clause-well_formed
returns-clause-well_formed c =
    let p = c.args.p in
    let e = c.args.side.now in
    let fs = c.args.facts.now in
    let P : List Fact → Type 0 = λ gs. IsTrue (list_all is_fact gs) in
    narrow_keeps P c.formed_point.result c.narrow.result (Forms-value P c.formed_point.result (spec.point_steps p fs e.b e.rest c.args.j) (spec.point p fs e.b e.rest c.args.j) c.formed_point.ensures (is_fact-point p fs e c.args.j c.requires.side c.requires.facts)) c.narrow.ensures.value
