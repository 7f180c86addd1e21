use Rattle.std.proofs.Common.{◌≡◌, ◌∙◌, subst, sym, pos, false, ◌++◌, None, Err, arith}
use Rattle.std.proofs.lemmas.Int.{to_z-of_z}
use Rattle.std.proofs.lemmas.Grind.{common_steps}
use Rattle.lin_base.specs.Steps.{IsErrorAt, first_wide, add_number_steps, replace_all_steps}
use Rattle.cert_tree.specs.Rows.{instance_at}
use Rattle.lin_base.specs.Sum.{occurs}
use Rattle.lin_base.proofs.Forming.{Forms-err, first_wide-append_none, IsErrorAt-append_some, IsErrorAt-append_none}
use Rattle.cert_tree.specs.declared.sums.Side.{Side}
use Rattle.cert_tree.specs.Bounds.{moved_by}
use Rattle.cert_tree.proofs.Pointing.{side_lin, side_absent, occurs-add_number}
use Rattle.cooper_rows.specs.Rows.{step_of, moved_row}
use Rattle.cooper_rows.proofs.completing.formed_step.Goals as goal

pub formed_instance-requires-clause-absent : goal.formed_instance-requires-clause-absent
formed_instance-requires-clause-absent c =
    let x = c.args.x in
    let e = c.args.bound.now in
    let P : Side → Type 0 = λ m. occurs x m.rest ≡ false in
    subst P (sym c.in_ok-moved.ensures.formed.0.1) (occurs-add_number x e.rest (pos c.args.j) (side_lin x e c.requires.bound) (side_absent x e c.requires.bound))

pub returns-in_err-moved : goal.returns-in_err-moved
returns-in_err-moved c =
    let x = c.args.x in
    let side = c.args.bound.now in
    let m = moved_by side c.args.j in
    let fs = c.args.clause.now in
    let e = c.in_err-moved.field-0.0 in
    let later = replace_all_steps x m.b m.rest fs in
    let is : c.from_residual.result ≡ Err e = grind (arith, common_steps) in
    Forms-err _ e (add_number_steps side.rest (pos c.args.j) ++ later) (step_of fs (moved_row c.args.number x side.b side.rest c.args.j)) is (IsErrorAt-append_some e (add_number_steps side.rest (pos c.args.j)) later c.in_err-moved.ensures.formed.1)

pub returns-in_err-clause : goal.returns-in_err-clause
returns-in_err-clause c =
    let x = c.args.x in
    let side = c.args.bound.now in
    let m = moved_by side c.args.j in
    let fs = c.args.clause.now in
    let e = c.in_err-clause.field-0.0 in
    let later = replace_all_steps x m.b m.rest fs in
    let P : Side → Type 0 = λ k. IsErrorAt e (first_wide (replace_all_steps x k.b k.rest fs)) in
    let is : c.from_residual-in_err-clause.result ≡ Err e = grind (arith, common_steps) in
    Forms-err _ e (add_number_steps side.rest (pos c.args.j) ++ later) (step_of fs (moved_row c.args.number x side.b side.rest c.args.j)) is
    (IsErrorAt-append_none e (add_number_steps side.rest (pos c.args.j)) later c.in_ok-moved.ensures.formed.0.0 (subst P c.in_ok-moved.ensures.formed.0.1 c.in_err-clause.ensures.1))

pub returns : goal.returns
returns c =
    let x = c.args.x in
    let side = c.args.bound.now in
    let m = moved_by side c.args.j in
    let fs = c.args.clause.now in
    let told = c.in_ok-moved.ensures.formed.0 in
    let P : Side → Type 0 = λ k. (first_wide (replace_all_steps x k.b k.rest fs) ≡ None) × (c.in_ok-clause.clause ≡ instance_at x k.b k.rest fs) in
    let both = subst P told.1 c.in_ok-clause.ensures.0 in
    let steps = first_wide-append_none (add_number_steps side.rest (pos c.args.j)) (replace_all_steps x m.b m.rest fs) told.0 ∙ both.0 in
    let moved = told.1 in
    let given = both.1 in
    grind (arith, common_steps, to_z-of_z)
