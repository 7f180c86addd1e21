use Rattle.std.proofs.Common.{◌≡◌, ◌∙◌, ap, subst, arith, true, ℕ, ℤ, List, Err, to_z, of_z}
use Rattle.std.specs.Int.{w128}
use Rattle.std.proofs.lemmas.Int.{to_z-of_z}
use Rattle.std.proofs.lemmas.Grind.{common_steps}
use Rattle.lin_base.specs.Sum.{assigned}
use Rattle.cooper_rows.specs.Counted.{fit, IsCause}
use Rattle.cooper.specs.Walks.{valuation_of, far_formed, far_at}
use Rattle.cooper.proofs.Places.{fits_err}
use Rattle.cooper.proofs.closing.with_far.Goals as goal

pub returns-in_err-value : goal.returns-in_err-value
returns-in_err-value c =
    let p = c.args.far.now.p in
    let facts = c.args.facts.now in
    let j = c.args.far.now.j in
    let d = c.args.far.now.d in
    let e = c.in_err-value.field-0.0 in
    let is : c.from_residual.result ≡ Err e = grind (arith, common_steps) in
    let E : List (ℕ × ℤ) → Type 0 = λ vs. IsCause e 0 0 (far_formed p facts j d (valuation_of vs)) in
    fits_err _ e (far_formed p facts j d (valuation_of c.args.values)) _ is (subst E c.as_slice.ensures c.in_err-value.ensures.1)

pub returns : goal.returns
returns c =
    let p = c.args.far.now.p in
    let facts = c.args.facts.now in
    let j = c.args.far.now.j in
    let d = c.args.far.now.d in
    let z = c.in_ok-value.value in
    let e : to_z w128 (of_z w128 z) ≡ z = grind (arith, common_steps, to_z-of_z) in
    let v = valuation_of c.args.values in
    let T : List (ℕ × ℤ) → Type 0 = λ vs. (fit (far_formed p facts j d (valuation_of vs)) ≡ true) × (z ≡ far_at p facts j d (valuation_of vs)) in
    let told = subst T c.as_slice.ensures c.in_ok-value.ensures.0 in
    ((told.0, ap valuation_of c.in_ok-with_value.ensures ∙ ap (λ y. assigned p y v) (e ∙ told.1)), tt)
