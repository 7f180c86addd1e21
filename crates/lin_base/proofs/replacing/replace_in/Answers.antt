use Rattle.std.proofs.Common.{◌≡◌, subst, ◌++◌, arith, ℤ, to_z, of_z}
use Rattle.std.specs.Int.{w128}
use Rattle.std.proofs.lemmas.Int.{to_z-of_z}
use Rattle.std.proofs.lemmas.Grind.{common_steps}
use Rattle.lin_base.specs.declared.sums.Lin.{Lin}
use Rattle.lin_base.specs.Sum.{scale, add, coef}
use Rattle.lin_base.specs.Steps.{scale_steps, add_steps, Forms}
use Rattle.lin_base.proofs.replacing.replace_in.Goals as goal

pub returns-clause-sum : goal.returns-clause-sum
returns-clause-sum c =
    let t = c.args.t.now in
    let x = c.args.x in
    let s = c.args.sum.now in
    let P : ℤ → ℤ → Lin → Type 0 = λ b a w. Forms c.add_products.result (scale_steps b t ++ scale_steps a w ++ add_steps (scale b t) (scale a w)) (add (scale b t) (scale a w)) in
    let told : P (to_z w128 (of_z w128 c.coef.result)) (to_z w128 (of_z w128 c.args.a)) c.in_ok-rest.rest = c.add_products.ensures.sum in
    let is : to_z w128 (of_z w128 c.coef.result) ≡ coef x s = grind (arith, common_steps, to_z-of_z) in
    let Q : ℤ → Type 0 = λ b. P b (to_z w128 (of_z w128 c.args.a)) c.in_ok-rest.rest in
    let R : ℤ → Type 0 = λ a. P (coef x s) a c.in_ok-rest.rest in
    let S : Lin → Type 0 = λ w. P (coef x s) c.args.a w in
    subst S c.in_ok-rest.ensures.value (subst R (to_z-of_z _ _ c.ranges.a) (subst Q is told))
