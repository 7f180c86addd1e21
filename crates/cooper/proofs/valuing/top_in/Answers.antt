use Rattle.std.proofs.Common.{◌≡◌, subst, arith, neg_ℤ, Err, [], ◌∷◌}
use Rattle.std.proofs.lemmas.Grind.{common_steps}
use Rattle.lin_base.specs.declared.sums.Lin.{Lin}
use Rattle.lin_base.specs.Numbers.{results}
use Rattle.lin_base.specs.Steps.{value_steps, first_wide, IsErrorAt}
use Rattle.lin_base.specs.Sum.{coef, without, value}
use Rattle.lin_base.specs.Whole.{div_floor}
use Rattle.cooper_rows.specs.Counted.{of_arithmetic}
use Rattle.cooper_rows.proofs.Budgets.{cause_first, cause_forms}
use Rattle.cooper.specs.Walks.{valuation_of}
use Rattle.cooper.proofs.Places.{fits_err}
use Rattle.cooper.proofs.valuing.top_in.Goals as goal

pub returns-in_err-at : goal.returns-in_err-at
returns-in_err-at c =
    let v = valuation_of c.args.values.now in
    let t = c.args.t.now in
    let rest = without c.args.p t in
    let at = neg_ℤ (value v rest) in
    let e = c.in_err-at.field-0.0 in
    let E : Lin → Type 0 = λ u. IsErrorAt e (first_wide (value_steps v u)) in
    let is : c.from_residual-in_err-at.result ≡ Err (of_arithmetic e) = grind (arith, common_steps) in
    fits_err _ (of_arithmetic e) _ _ is
    (cause_first (of_arithmetic e) 0 0 0 (results (value_steps v rest)) (at ∷ div_floor at (coef c.args.p t) ∷ []) (cause_forms e 0 0 (value_steps v rest) (subst E c.in_ok-rest.ensures.value c.in_err-at.ensures.1)))
