use Rattle.std.proofs.Common.{IsTrue, IfSome, Option}
use Rattle.std.specs.Prelude.{option_map}
use Rattle.lin_base.proofs.Forming.{Forms-value}
use Rattle.cert_tree.specs.declared.test_points.Bound.{Bound}
use Rattle.cert_tree.specs.Children as spec
use Rattle.cert_tree.specs.Bounds.{bound_of, is_side}
use Rattle.cert_tree.proofs.Forming.{narrow_keeps}
use Rattle.cert_tree.proofs.Pointing.{lower_bound_is}
use Rattle.cert_tree.proofs.test_points.lower_bound.Goals as goal

pub returns-clause-well_formed : goal.returns-clause-well_formed
returns-clause-well_formed c =
    let p = c.args.p in
    let d = c.args.d.now in
    let f = c.args.fact.now in
    let P : Option Bound → Type 0 = λ o. IfSome o (λ b. IsTrue (is_side p b.side)) in
    narrow_keeps P c.formed_bound.result c.narrow.result (Forms-value P c.formed_bound.result (spec.bound_steps_of (spec.lower_bound p d f)) (option_map bound_of (spec.lower_bound p d f)) c.formed_bound.ensures (lower_bound_is p d f c.requires)) c.narrow.ensures.value
