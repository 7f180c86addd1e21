use Rattle.std.proofs.Common.{◌≡◌, subst, arith, ℤ, None, Err, to_z, of_z}
use Rattle.std.specs.Int.{w128}
use Rattle.std.proofs.lemmas.Int.{to_z-of_z}
use Rattle.std.proofs.lemmas.Grind.{common_steps}
use Rattle.lin_base.specs.Change.{replace}
use Rattle.lin_base.specs.Numbers.{results}
use Rattle.lin_base.specs.Steps.{IsErrorAt, first_wide, replace_steps}
use Rattle.cooper_rows.specs.Counted.{of_arithmetic}
use Rattle.cooper_rows.proofs.Budgets.{cause_forms, narrow_fits}
use Rattle.cooper.proofs.Places.{fits_err}
use Rattle.cooper.proofs.sharing.by_side.Goals as goal

pub returns-in_err-made : goal.returns-in_err-made
returns-in_err-made c =
    let p = c.args.p in
    let s = c.args.side.now in
    let f = c.args.fact.now in
    let e = c.in_err-made.field-0.0 in
    let at : to_z w128 (of_z w128 s.b) ≡ s.b = grind (arith, common_steps, to_z-of_z) in
    let E : ℤ → Type 0 = λ z. IsErrorAt e (first_wide (replace_steps p z s.rest f)) in
    let is : c.from_residual.result ≡ Err (of_arithmetic e) = grind (arith, common_steps) in
    fits_err _ (of_arithmetic e) (results (replace_steps p s.b s.rest f)) _ is (cause_forms e 0 0 (replace_steps p s.b s.rest f) (subst E at c.in_err-made.ensures.replaced.1))

pub returns : goal.returns
returns c =
    let p = c.args.p in
    let s = c.args.side.now in
    let f = c.args.fact.now in
    let at : to_z w128 (of_z w128 s.b) ≡ s.b = grind (arith, common_steps, to_z-of_z) in
    let T : ℤ → Type 0 = λ z. (first_wide (replace_steps p z s.rest f) ≡ None) × (c.in_ok-made.made ≡ replace p z s.rest f) in
    let told = subst T at c.in_ok-made.ensures.replaced.0 in
    ((narrow_fits (replace_steps p s.b s.rest f) told.0, told.1), tt)
