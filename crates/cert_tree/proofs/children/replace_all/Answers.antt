use Rattle.std.proofs.Common.{◌≡◌, ◌∙◌, ap, sym, subst, ◌++◌, ◌+◌, drop, map, ℤ, Err, List, arith, append_assoc, to_z, of_z}
use Rattle.std.specs.Int.{w128}
use Rattle.std.proofs.lemmas.Int.{to_z-of_z}
use Rattle.std.proofs.lemmas.Grind.{common_steps}
use Rattle.lin_base.specs.declared.wides.Wide.{Wide}
use Rattle.lin_base.specs.Change.{replace}
use Rattle.lin_base.specs.Steps.{first_wide, replace_steps, replace_all_steps, IsErrorAt}
use Rattle.lin_base.proofs.Forming.{Forms-err, IsErrorAt-append_some, forming}
use Rattle.cert_tree.proofs.Replacing.{replace_all_steps-drop, replaced-drop}
use Rattle.cert_tree.proofs.children.replace_all.Goals as goal

pub returns-in_err-replaced : goal.returns-in_err-replaced
returns-in_err-replaced c =
    let x = c.args.x in
    let t = c.args.t.now in
    let fs = c.args.facts.now in
    let i = c.loop-fact.fact-index in
    let a = to_z w128 (of_z w128 c.args.a) in
    let item = c.fact-item.result in
    let e = c.in_err-replaced.field-0.0 in
    let rest = replace_all_steps x a t (drop (i + 1) fs) in
    let more = replace_all_steps-drop x a t fs i item c.loop-fact-test.true ∙ ap (λ f. replace_steps x a t f ++ rest) (sym c.fact-item.is) in
    let P : List Wide → Type 0 = λ ss. IsErrorAt e (first_wide ss) in
    let here : P (replace_all_steps x a t (drop i fs)) = subst P (sym more) (IsErrorAt-append_some e (replace_steps x a t item) rest c.in_err-replaced.ensures.replaced.1) in
    let all : P (replace_all_steps x a t fs) = subst (IsErrorAt e) (sym c.loop-fact.invariant.0) here in
    let Q : ℤ → Type 0 = λ b. P (replace_all_steps x b t fs) in
    let is : c.from_residual.result ≡ Err e = grind (arith, common_steps) in
    Forms-err _ e (replace_all_steps x c.args.a t fs) (map (replace x c.args.a t) fs) is (subst Q (to_z-of_z _ _ c.ranges.a) all)

pub loop-fact-preserved : goal.loop-fact-preserved
loop-fact-preserved c =
    let x = c.args.x in
    let t = c.args.t.now in
    let fs = c.args.facts.now in
    let i = c.loop-fact.fact-index in
    let a = to_z w128 (of_z w128 c.args.a) in
    let item = c.fact-item.result in
    let more = replace_all_steps-drop x a t fs i item c.loop-fact-test.true in
    let terms = replaced-drop x a t fs i item c.loop-fact-test.true in
    let narrow = c.in_ok-replaced.ensures.replaced.0.0 in
    let value = c.in_ok-replaced.ensures.replaced.0.1 in
    (grind (arith, forming), grind (arith, forming, append_assoc))
