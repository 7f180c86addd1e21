use Rattle.std.proofs.Common.{◌≡◌, ◌∙◌, ap, sym, subst, Bool, IfOk}
use Rattle.cert_tree.specs.Ground.{variables}
use Rattle.cert_tree.specs.Holds.{ground_holds}
use Rattle.cert_tree.proofs.ValueChecks.{checks_some, checks_none}
use Rattle.cert_tree.proofs.holding.clause_checks.Goals as goal

pub returns-in_ok-variables-in-Some : goal.returns-in_ok-variables-in-Some
returns-in_ok-variables-in-Some c =
    let params = c.args.params in
    let put = c.in-Some.put in
    let whole = checks_some params c.args.values.now c.args.clause.now c.in_ok-put.field-0 put c.in_ok-put.ensures.value c.in-Some.is in
    let are = c.as_slice-in-Some.ensures ∙ c.in_ok-variables-in-Some.ensures ∙ ap (variables params) c.as_slice.ensures in
    let Q : Bool → Type 0 = λ a. IfOk c.ground_holds.result (λ b. b ≡ a) in
    subst Q (ap (λ xs. ground_holds xs c.as_slice-in-Some-2.result.now) are ∙ ap (ground_holds (variables params put)) c.as_slice-in-Some-2.ensures ∙ sym whole) c.ground_holds.ensures

pub returns-in-None : goal.returns-in-None
returns-in-None c = sym (checks_none c.args.params c.args.values.now c.args.clause.now c.in_ok-put.field-0 c.in_ok-put.ensures.value c.in-None.is)
