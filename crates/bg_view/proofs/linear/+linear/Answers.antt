use Rattle.std.proofs.Common.{◌≡◌, ◌∙◌, refl, ap, subst, arith, false, ℤ, to_z, of_z}
use Rattle.std.specs.Int.{w128}
use Rattle.std.proofs.lemmas.Int.{to_z-of_z}
use Rattle.std.proofs.lemmas.Grind.{common_steps}
use Rattle.lin_base.specs.Sum.{scale, has_unknown as sum_has_unknown}
use Rattle.lin_base.specs.Steps.{Forms, scale_steps}
use Rattle.bg_view.specs.Numbers.{numbering_of}
use Rattle.bg_view.proofs.LinearForms.{left_fails, right_fails, sum_answers, scaled_fails, product_answers}
use Rattle.bg_view.proofs.NoUnknowns.{has_unknown-linear, left_part, right_part, multiple_part, other_error}
use Rattle.bg_view.proofs.linear.+linear.Goals as goal

pub returns-in_err-left-in-Sum-clause-sum : goal.returns-in_err-left-in-Sum-clause-sum
returns-in_err-left-in-Sum-clause-sum t c =
    left_fails (numbering_of c.args.unknowns.now) _ c.args.t.now c.in-Sum.a c.in-Sum.b c.get.result.now c.in-Sum.b c.in-Sum.is c.get.ensures refl
    c.in_err-left-in-Sum.field-0.0 (grind (arith, common_steps)) c.in_err-left-in-Sum.ensures.sum.1

pub returns-in_err-right-in-Sum-clause-sum : goal.returns-in_err-right-in-Sum-clause-sum
returns-in_err-right-in-Sum-clause-sum t c =
    right_fails (numbering_of c.args.unknowns.now) _ c.args.t.now c.in-Sum.a c.in-Sum.b c.get.result.now c.get-in-Sum.result.now c.in-Sum.is c.get.ensures c.get-in-Sum.ensures
    c.in_err-right-in-Sum.field-0.0 (grind (arith, common_steps)) c.in_ok-left-in-Sum.ensures.sum.0.0 c.in_err-right-in-Sum.ensures.sum.1

pub returns-in_ok-right-in-Sum-clause-sum : goal.returns-in_ok-right-in-Sum-clause-sum
returns-in_ok-right-in-Sum-clause-sum t c =
    sum_answers (numbering_of c.args.unknowns.now) _ c.args.t.now c.in-Sum.a c.in-Sum.b c.get.result.now c.get-in-Sum.result.now c.in-Sum.is c.get.ensures c.get-in-Sum.ensures
    c.in_ok-left-in-Sum.left c.in_ok-right-in-Sum.right c.in_ok-left-in-Sum.ensures.sum.0 c.in_ok-right-in-Sum.ensures.sum.0 c.add.ensures.sum

pub returns-in_err-sum-in-Scale-clause-sum : goal.returns-in_err-sum-in-Scale-clause-sum
returns-in_err-sum-in-Scale-clause-sum t c =
    scaled_fails (numbering_of c.args.unknowns.now) _ c.args.t.now c.in-Scale.k c.in-Scale.a c.get-in-Scale.result.now c.in-Scale.is c.get-in-Scale.ensures
    c.in_err-sum-in-Scale.field-0.0 (grind (arith, common_steps)) c.in_err-sum-in-Scale.ensures.sum.1

pub returns-in_ok-sum-in-Scale-clause-sum : goal.returns-in_ok-sum-in-Scale-clause-sum
returns-in_ok-sum-in-Scale-clause-sum t c =
    let u = c.in_ok-sum-in-Scale.sum in
    let P : ℤ → Type 0 = λ k. Forms c.scale.result (scale_steps k u) (scale k u) in
    let told : P (to_z w128 (of_z w128 c.in-Scale.k)) = c.scale.ensures.product in
    product_answers (numbering_of c.args.unknowns.now) _ c.args.t.now c.in-Scale.k c.in-Scale.a c.get-in-Scale.result.now c.in-Scale.is c.get-in-Scale.ensures
    u c.in_ok-sum-in-Scale.ensures.sum.0 (subst P (grind (arith, common_steps, to_z-of_z)) told)

pub returns-in_err-left-in-Sum-clause-memory : goal.returns-in_err-left-in-Sum-clause-memory
returns-in_err-left-in-Sum-clause-memory t c = λ h.
    other_error _ c.in_err-left-in-Sum.field-0.0 (grind (arith, common_steps))
    (c.in_err-left-in-Sum.ensures.memory (left_part c.args.t.now c.in-Sum.a c.in-Sum.b c.get.result.now c.in-Sum.b c.in-Sum.is c.get.ensures refl h))

pub returns-in_err-right-in-Sum-clause-memory : goal.returns-in_err-right-in-Sum-clause-memory
returns-in_err-right-in-Sum-clause-memory t c = λ h.
    other_error _ c.in_err-right-in-Sum.field-0.0 (grind (arith, common_steps))
    (c.in_err-right-in-Sum.ensures.memory (right_part c.args.t.now c.in-Sum.a c.in-Sum.b c.get.result.now c.get-in-Sum.result.now c.in-Sum.is c.get.ensures c.get-in-Sum.ensures h))

pub returns-in_ok-right-in-Sum-clause-memory : goal.returns-in_ok-right-in-Sum-clause-memory
returns-in_ok-right-in-Sum-clause-memory t c = λ h.
    let n = numbering_of c.args.unknowns.now in
    let x = c.get.result.now in
    let y = c.get-in-Sum.result.now in
    let left : sum_has_unknown c.in_ok-left-in-Sum.left ≡ false =
    ap sum_has_unknown c.in_ok-left-in-Sum.ensures.sum.0.1 ∙ has_unknown-linear n x (left_part c.args.t.now c.in-Sum.a c.in-Sum.b x y c.in-Sum.is c.get.ensures c.get-in-Sum.ensures h) in
    let right : sum_has_unknown c.in_ok-right-in-Sum.right ≡ false =
    ap sum_has_unknown c.in_ok-right-in-Sum.ensures.sum.0.1 ∙ has_unknown-linear n y (right_part c.args.t.now c.in-Sum.a c.in-Sum.b x y c.in-Sum.is c.get.ensures c.get-in-Sum.ensures h) in
    c.add.ensures.memory left right

pub returns-in_err-sum-in-Scale-clause-memory : goal.returns-in_err-sum-in-Scale-clause-memory
returns-in_err-sum-in-Scale-clause-memory t c = λ h.
    other_error _ c.in_err-sum-in-Scale.field-0.0 (grind (arith, common_steps))
    (c.in_err-sum-in-Scale.ensures.memory (multiple_part c.args.t.now c.in-Scale.k c.in-Scale.a c.get-in-Scale.result.now c.in-Scale.is c.get-in-Scale.ensures h))

pub returns-in_ok-sum-in-Scale-clause-memory : goal.returns-in_ok-sum-in-Scale-clause-memory
returns-in_ok-sum-in-Scale-clause-memory t c = λ h.
    let n = numbering_of c.args.unknowns.now in
    let x = c.get-in-Scale.result.now in
    let none : sum_has_unknown c.in_ok-sum-in-Scale.sum ≡ false =
    ap sum_has_unknown c.in_ok-sum-in-Scale.ensures.sum.0.1 ∙ has_unknown-linear n x (multiple_part c.args.t.now c.in-Scale.k c.in-Scale.a x c.in-Scale.is c.get-in-Scale.ensures h) in
    c.scale.ensures.memory none
