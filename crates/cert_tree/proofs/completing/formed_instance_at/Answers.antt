use Rattle.std.proofs.Common.{◌≡◌, subst, sym, pos, false, ◌++◌, Err, arith}
use Rattle.std.proofs.lemmas.Grind.{common_steps}
use Rattle.lin_base.specs.Steps.{Forms, add_number_steps, replace_all_steps}
use Rattle.lin_base.specs.Sum.{occurs}
use Rattle.lin_base.proofs.Forming.{Forms-after, Forms-err, IsErrorAt-append_some}
use Rattle.cert_tree.specs.declared.sums.Side.{Side}
use Rattle.cert_tree.specs.Rows.{instance_at}
use Rattle.cert_tree.specs.Complete.{moved_instance}
use Rattle.cert_tree.specs.Bounds.{moved_by}
use Rattle.cert_tree.proofs.Pointing.{side_lin, side_absent, occurs-add_number}
use Rattle.cert_tree.proofs.completing.formed_instance_at.Goals as goal

pub formed_instance-requires-clause-absent : goal.formed_instance-requires-clause-absent
formed_instance-requires-clause-absent c =
    let x = c.args.x in
    let e = c.args.bound.now in
    let P : Side → Type 0 = λ m. occurs x m.rest ≡ false in
    subst P (sym c.in_ok-moved.ensures.formed.0.1) (occurs-add_number x e.rest (pos c.args.j) (side_lin x e c.requires.bound) (side_absent x e c.requires.bound))

pub returns-in_err-moved : goal.returns-in_err-moved
returns-in_err-moved c =
    let x = c.args.x in
    let side = c.args.bound.now in
    let m = moved_by side c.args.j in
    let fs = c.args.clause.now in
    let e = c.in_err-moved.field-0.0 in
    let later = replace_all_steps x m.b m.rest fs in
    let is : c.from_residual.result ≡ Err e = grind (arith, common_steps) in
    Forms-err _ e (add_number_steps side.rest (pos c.args.j) ++ later) (moved_instance x fs side.b side.rest c.args.j) is (IsErrorAt-append_some e (add_number_steps side.rest (pos c.args.j)) later c.in_err-moved.ensures.formed.1)

pub returns : goal.returns
returns c =
    let x = c.args.x in
    let e = c.args.bound.now in
    let m = moved_by e c.args.j in
    let fs = c.args.clause.now in
    let P : Side → Type 0 = λ d. Forms c.formed_instance.result (replace_all_steps x d.b d.rest fs) (instance_at x d.b d.rest fs) in
    let formed = subst P c.in_ok-moved.ensures.formed.0.1 c.formed_instance.ensures in
    Forms-after c.formed_instance.result (add_number_steps e.rest (pos c.args.j)) (replace_all_steps x m.b m.rest fs) (moved_instance x fs e.b e.rest c.args.j) c.in_ok-moved.ensures.formed.0.0 formed
