use Rattle.std.proofs.Common.{◌≡◌, ◌∙◌, ap, subst, ℤ, arith, length, to_z, of_z}
use Rattle.std.specs.Int.{w128}
use Rattle.std.proofs.lemmas.Int.{to_z-of_z}
use Rattle.std.proofs.lemmas.Grind.{common_steps}
use Rattle.lin_base.specs.Numbers.{results}
use Rattle.cert_tree.specs.Complete.{complete_rows, complete_steps}
use Rattle.cert_tree.specs.Points.{period, period_steps}
use Rattle.cooper_rows.specs.Counted.{fit, Counted}
use Rattle.cooper_rows.specs.Rows.{completed, rows_by, rows_steps}
use Rattle.cooper_rows.proofs.Budgets.{after_fits, fit_first, results-append, some_is_narrow, none_is_out}
use Rattle.cooper_rows.proofs.CompleteRows.{complete_counted, complete_well}
use Rattle.cooper_rows.proofs.completing.complete.Goals as goal

pub returns-in-Some-clause-formed : goal.returns-in-Some-clause-formed
returns-in-Some-clause-formed c =
    let n = c.args.number in
    let x = c.args.x in
    let fs = c.args.clause.now in
    let d = c.in-Some.d in
    let m0 = c.args.room.now in
    let r = c.rows.result in
    let e : to_z w128 (of_z w128 d) ≡ d = grind (arith, common_steps, to_z-of_z) in
    let out = some_is_narrow c.in_ok-d.field-0 (period x fs) d (period_steps x fs) c.in_ok-d.ensures.value c.in-Some.is in
    let F : ℤ → Type 0 = λ z. Counted r m0 c.rows.new.room (length (rows_by n x z fs)) (results (rows_steps x z fs)) (λ v. v ≡ completed fs (rows_by n x z fs)) in
    complete_counted n x fs d r m0 c.rows.new.room out.1 (after_fits m0 (results (period_steps x fs)) out.0) (subst F e c.rows.ensures)

pub returns-in-Some-clause-well_formed : goal.returns-in-Some-clause-well_formed
returns-in-Some-clause-well_formed c =
    let n = c.args.number in
    let x = c.args.x in
    let fs = c.args.clause.now in
    let d = c.in-Some.d in
    let m0 = c.args.room.now in
    let m1 = c.rows.new.room in
    let r = c.rows.result in
    let e : to_z w128 (of_z w128 d) ≡ d = grind (arith, common_steps, to_z-of_z) in
    let out = some_is_narrow c.in_ok-d.field-0 (period x fs) d (period_steps x fs) c.in_ok-d.ensures.value c.in-Some.is in
    let F : ℤ → Type 0 = λ z. Counted r m0 m1 (length (rows_by n x z fs)) (results (rows_steps x z fs)) (λ v. v ≡ completed fs (rows_by n x z fs)) in
    complete_well n x fs r m0 m1 (length (complete_rows n x fs)) (results (complete_steps x fs)) c.requires
    (complete_counted n x fs d r m0 m1 out.1 (after_fits m0 (results (period_steps x fs)) out.0) (subst F e c.rows.ensures))

pub returns-in-None-clause-formed : goal.returns-in-None-clause-formed
returns-in-None-clause-formed c =
    let x = c.args.x in
    let fs = c.args.clause.now in
    let later = rows_steps x (period x fs) fs in
    (tt, ap fit (results-append (period_steps x fs) later) ∙ fit_first (results (period_steps x fs)) (results later) (none_is_out c.in_ok-d.field-0 (period x fs) (period_steps x fs) c.in_ok-d.ensures.value c.in-None.is))
