use Rattle.std.proofs.Common.{◌≡◌, ◌∙◌, subst, sym, Err, arith}
use Rattle.std.proofs.lemmas.Grind.{common_steps}
use Rattle.lin_base.specs.declared.wides.ArithmeticError.{ArithmeticError}
use Rattle.lin_base.specs.Steps.{first_wide, IsErrorAt}
use Rattle.lin_base.proofs.Forming.{Forms-err}
use Rattle.cert_tree.specs.Complete.{lows_steps, lows_at}
use Rattle.cert_tree.proofs.Completion.{lows_none, lows_some}
use Rattle.cert_tree.proofs.completing.formed_lows.Goals as goal

pub returns-then-has_upper_bound : goal.returns-then-has_upper_bound
returns-then-has_upper_bound c =
    let none = lows_none c.args.x c.args.clause.now c.args.d.now (sym c.has_upper_bound.ensures ∙ c.if-has_upper_bound.true) in
    grind (arith, common_steps)

pub returns-in_err-length : goal.returns-in_err-length
returns-in_err-length c =
    let x = c.args.x in
    let fs = c.args.clause.now in
    let d = c.args.d.now in
    let e = c.in_err-length.field-0.0 in
    let is : c.from_residual.result ≡ Err e = grind (arith, common_steps) in
    let P : ArithmeticError → Type 0 = λ f. IsErrorAt f (first_wide (lows_steps x fs d)) in
    Forms-err _ e (lows_steps x fs d) (lows_at x fs d) is (subst P (sym c.in_err-length.ensures.memory) tt)

pub returns : goal.returns
returns c =
    lows_some c.args.x c.args.clause.now c.args.d.now c.in_ok-length.length c.formed_numbered_lows.result (sym c.has_upper_bound.ensures ∙ c.if-has_upper_bound.false) c.requires.d c.in_ok-length.ensures.value c.formed_numbered_lows.ensures
