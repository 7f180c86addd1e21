use Rattle.std.proofs.Common.{◌≡◌, ◌∙◌, ap, sym, subst, ◌++◌, ◌+◌, drop, Err, List, arith, append_assoc}
use Rattle.std.proofs.lemmas.Grind.{common_steps}
use Rattle.lin_base.specs.declared.wides.Wide.{Wide}
use Rattle.lin_base.specs.Steps.{first_wide, IsErrorAt}
use Rattle.lin_base.proofs.Forming.{Forms-err, IsErrorAt-append_some, forming}
use Rattle.cert_tree.specs.Complete.{upper, uppers_steps, uppers_at, literal_steps, literal_instances}
use Rattle.cert_tree.proofs.Completion.{uppers_steps-drop, uppers_at-drop}
use Rattle.cert_tree.proofs.completing.formed_uppers.Goals as goal

pub returns-in_err-instances : goal.returns-in_err-instances
returns-in_err-instances c =
    let x = c.args.x in
    let fs = c.args.clause.now in
    let d = c.args.d.now in
    let i = c.loop-fact.fact-index in
    let item = c.fact-item.result in
    let e = c.in_err-instances.field-0.0 in
    let rest = uppers_steps x fs d (drop (i + 1) fs) in
    let more = uppers_steps-drop x fs d fs i item c.loop-fact-test.true ∙ ap (λ f. literal_steps x fs d (upper x f) ++ rest) (sym c.fact-item.is) in
    let P : List Wide → Type 0 = λ ss. IsErrorAt e (first_wide ss) in
    let here : P (uppers_steps x fs d (drop i fs)) = subst P (sym more) (IsErrorAt-append_some e (literal_steps x fs d (upper x item)) rest c.in_err-instances.ensures.1) in
    let all : P (uppers_steps x fs d fs) = subst (IsErrorAt e) (sym c.loop-fact.invariant.0) here in
    let is : c.from_residual.result ≡ Err e = grind (arith, common_steps) in
    Forms-err _ e (uppers_steps x fs d fs) (uppers_at x fs d fs) is all

pub loop-fact-preserved : goal.loop-fact-preserved
loop-fact-preserved c =
    let x = c.args.x in
    let fs = c.args.clause.now in
    let d = c.args.d.now in
    let i = c.loop-fact.fact-index in
    let item = c.fact-item.result in
    let more = uppers_steps-drop x fs d fs i item c.loop-fact-test.true ∙ ap (λ f. literal_steps x fs d (upper x f) ++ uppers_steps x fs d (drop (i + 1) fs)) (sym c.fact-item.is) in
    let terms = uppers_at-drop x fs d fs i item c.loop-fact-test.true ∙ ap (λ f. literal_instances x fs d (upper x f) ++ uppers_at x fs d (drop (i + 1) fs)) (sym c.fact-item.is) in
    let narrow = c.in_ok-instances.ensures.0.0 in
    let value = c.in_ok-instances.ensures.0.1 in
    (grind (arith, forming), grind (arith, forming, append_assoc))
