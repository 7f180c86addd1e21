use Rattle.std.proofs.Common.{◌≡◌, ◌∙◌, ap, subst, ◌+ℤ◌, ◌-ℤ◌, neg_ℤ, ℤ, [], ◌∷◌, arith, to_z, of_z}
use Rattle.std.specs.Int.{w128, int_rem_euclid}
use Rattle.std.proofs.lemmas.Int.{to_z-of_z}
use Rattle.std.proofs.lemmas.Grind.{common_steps}
use Rattle.cooper_rows.specs.Counted.{Fits}
use Rattle.cooper.proofs.valuing.down_to.Goals as goal

pub returns : goal.returns
returns c =
    let top = c.args.top in
    let r = c.step_down.result in
    let F : ℤ → Type 0 = λ z. Fits c.total.result (z ∷ []) (λ y. y ≡ z) in
    let e : to_z w128 (of_z w128 r) ≡ r = grind (arith, common_steps, to_z-of_z) in
    let e0 : to_z w128 (of_z w128 top) ≡ top = grind (arith, common_steps, to_z-of_z) in
    let is : r ≡ neg_ℤ (int_rem_euclid (top -ℤ c.args.j) c.args.d) = grind (arith, common_steps, to_z-of_z) in
    subst F (ap (λ y. y +ℤ to_z w128 (of_z w128 r)) e0 ∙ ap (λ y. top +ℤ y) (e ∙ is)) c.total.ensures
