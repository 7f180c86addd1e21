use Rattle.std.proofs.Common.{refl, subst, arith, map, ℤ, to_z, of_z}
use Rattle.std.specs.Int.{w128}
use Rattle.std.proofs.lemmas.Int.{to_z-of_z}
use Rattle.std.proofs.lemmas.Grind.{common_steps}
use Rattle.term_base.specs.Trees.{tree}
use Rattle.lin_base.specs.Sum.{scale}
use Rattle.lin_base.specs.Steps.{Forms, scale_steps}
use Rattle.linear_form.proofs.LinearForms.{left_fails, right_fails, sum_answers, scaled_fails, product_answers}
use Rattle.linear_form.proofs.forming.+linear_in.Goals as goal

pub returns-in_err-left-in-Sum-clause-sum : goal.returns-in_err-left-in-Sum-clause-sum
returns-in_err-left-in-Sum-clause-sum t c =
    left_fails (map tree c.args.terms.now) _ c.args.t.now c.in-Sum.a c.in-Sum.b c.get.result.now c.in-Sum.b c.in-Sum.is c.get.ensures refl
    c.in_err-left-in-Sum.field-0.0 (grind (arith, common_steps)) c.in_err-left-in-Sum.ensures.sum.1

pub returns-in_err-right-in-Sum-clause-sum : goal.returns-in_err-right-in-Sum-clause-sum
returns-in_err-right-in-Sum-clause-sum t c =
    right_fails (map tree c.args.terms.now) _ c.args.t.now c.in-Sum.a c.in-Sum.b c.get.result.now c.get-in-Sum.result.now c.in-Sum.is c.get.ensures c.get-in-Sum.ensures
    c.in_err-right-in-Sum.field-0.0 (grind (arith, common_steps)) c.in_ok-left-in-Sum.ensures.sum.0.0 c.in_err-right-in-Sum.ensures.sum.1

pub returns-in_ok-right-in-Sum-clause-sum : goal.returns-in_ok-right-in-Sum-clause-sum
returns-in_ok-right-in-Sum-clause-sum t c =
    sum_answers (map tree c.args.terms.now) _ c.args.t.now c.in-Sum.a c.in-Sum.b c.get.result.now c.get-in-Sum.result.now c.in-Sum.is c.get.ensures c.get-in-Sum.ensures
    c.in_ok-left-in-Sum.left c.in_ok-right-in-Sum.right c.in_ok-left-in-Sum.ensures.sum.0 c.in_ok-right-in-Sum.ensures.sum.0 c.add.ensures.sum

pub returns-in_err-sum-in-Scale-clause-sum : goal.returns-in_err-sum-in-Scale-clause-sum
returns-in_err-sum-in-Scale-clause-sum t c =
    scaled_fails (map tree c.args.terms.now) _ c.args.t.now c.in-Scale.k c.in-Scale.a c.get-in-Scale.result.now c.in-Scale.is c.get-in-Scale.ensures
    c.in_err-sum-in-Scale.field-0.0 (grind (arith, common_steps)) c.in_err-sum-in-Scale.ensures.sum.1

pub returns-in_ok-sum-in-Scale-clause-sum : goal.returns-in_ok-sum-in-Scale-clause-sum
returns-in_ok-sum-in-Scale-clause-sum t c =
    let u = c.in_ok-sum-in-Scale.sum in
    let P : ℤ → Type 0 = λ k. Forms c.scale.result (scale_steps k u) (scale k u) in
    let told : P (to_z w128 (of_z w128 c.in-Scale.k)) = c.scale.ensures.product in
    product_answers (map tree c.args.terms.now) _ c.args.t.now c.in-Scale.k c.in-Scale.a c.get-in-Scale.result.now c.in-Scale.is c.get-in-Scale.ensures
    u c.in_ok-sum-in-Scale.ensures.sum.0 (subst P (grind (arith, common_steps, to_z-of_z)) told)
