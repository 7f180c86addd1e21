use Rattle.std.proofs.Common.{◌≡◌, ◌∙◌, ap, sym, subst, ◌++◌, ◌+◌, drop, Err, List, arith, append_assoc}
use Rattle.std.proofs.lemmas.Grind.{common_steps}
use Rattle.lin_base.specs.declared.wides.Wide.{Wide}
use Rattle.lin_base.specs.Steps.{first_wide, IsErrorAt}
use Rattle.lin_base.proofs.Forming.{Forms-err, IsErrorAt-append_some, forming}
use Rattle.cert_tree.specs.Children as spec
use Rattle.cert_tree.proofs.Pointing.{far_child_steps-drop, far_child-drop}
use Rattle.cert_tree.proofs.test_points.formed_far.Goals as goal

pub returns-in_err-down : goal.returns-in_err-down
returns-in_err-down c =
    let p = c.args.p in
    let j = c.args.j in
    let fs = c.args.facts.now in
    let i = c.loop-fact.fact-index in
    let item = c.fact-item.result in
    let e = c.in_err-down.field-0.0 in
    let rest = spec.far_child_steps p (drop (i + 1) fs) j in
    let more = far_child_steps-drop p j fs i item c.loop-fact-test.true ∙ ap (λ f. spec.far_down_steps p j f ++ rest) (sym c.fact-item.is) in
    let P : List Wide → Type 0 = λ ss. IsErrorAt e (first_wide ss) in
    let here : P (spec.far_child_steps p (drop i fs) j) = subst P (sym more) (IsErrorAt-append_some e (spec.far_down_steps p j item) rest c.in_err-down.ensures.1) in
    let all : P (spec.far_child_steps p fs j) = subst (IsErrorAt e) (sym c.loop-fact.invariant.0) here in
    let is : c.from_residual.result ≡ Err e = grind (arith, common_steps) in
    Forms-err _ e (spec.far_child_steps p fs j) (spec.far_child p fs j) is all

pub loop-fact-preserved : goal.loop-fact-preserved
loop-fact-preserved c =
    let p = c.args.p in
    let j = c.args.j in
    let fs = c.args.facts.now in
    let i = c.loop-fact.fact-index in
    let item = c.fact-item.result in
    let more = far_child_steps-drop p j fs i item c.loop-fact-test.true in
    let terms = far_child-drop p j fs i item c.loop-fact-test.true in
    let narrow = c.in_ok-down.ensures.0.0 in
    let value = c.in_ok-down.ensures.0.1 in
    (grind (arith, forming), grind (arith, forming, append_assoc))
