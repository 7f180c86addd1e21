use Rattle.std.proofs.Common.{◌≡◌, subst, sym, pos, false, ◌++◌, Err, arith}
use Rattle.std.proofs.lemmas.Grind.{common_steps}
use Rattle.lin_base.specs.Steps.{Forms, add_number_steps, replace_all_steps}
use Rattle.lin_base.specs.Sum.{occurs}
use Rattle.lin_base.proofs.Forming.{Forms-after, Forms-err, IsErrorAt-append_some}
use Rattle.cert_tree.specs.declared.sums.Side.{Side}
use Rattle.cert_tree.specs.Children.{with_value, point}
use Rattle.cert_tree.specs.Bounds.{moved_by}
use Rattle.cert_tree.proofs.Pointing.{side_lin, side_absent, occurs-add_number}
use Rattle.cert_tree.proofs.test_points.formed_point.Goals as goal

pub with_value-requires-clause-absent : goal.with_value-requires-clause-absent
with_value-requires-clause-absent c =
    let p = c.args.p in
    let e = c.args.side.now in
    let P : Side → Type 0 = λ m. occurs p m.rest ≡ false in
    subst P (sym c.in_ok-moved.ensures.formed.0.1) (occurs-add_number p e.rest (pos c.args.j) (side_lin p e c.requires.side) (side_absent p e c.requires.side))

pub returns-in_err-moved : goal.returns-in_err-moved
returns-in_err-moved c =
    let p = c.args.p in
    let side = c.args.side.now in
    let m = moved_by side c.args.j in
    let fs = c.args.facts.now in
    let e = c.in_err-moved.field-0.0 in
    let later = replace_all_steps p m.b m.rest fs in
    let is : c.from_residual.result ≡ Err e = grind (arith, common_steps) in
    Forms-err _ e (add_number_steps side.rest (pos c.args.j) ++ later) (point p fs side.b side.rest c.args.j) is (IsErrorAt-append_some e (add_number_steps side.rest (pos c.args.j)) later c.in_err-moved.ensures.formed.1)

pub returns : goal.returns
returns c =
    let p = c.args.p in
    let e = c.args.side.now in
    let m = moved_by e c.args.j in
    let fs = c.args.facts.now in
    let P : Side → Type 0 = λ d. Forms c.with_value.result (replace_all_steps p d.b d.rest fs) (with_value p d.b d.rest fs) in
    let formed = subst P c.in_ok-moved.ensures.formed.0.1 c.with_value.ensures in
    Forms-after c.with_value.result (add_number_steps e.rest (pos c.args.j)) (replace_all_steps p m.b m.rest fs) (point p fs e.b e.rest c.args.j) c.in_ok-moved.ensures.formed.0.0 formed
