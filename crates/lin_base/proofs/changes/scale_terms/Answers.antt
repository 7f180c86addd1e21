use Rattle.std.proofs.Common.{◌≡◌, pos, ◌+◌, ◌*ℤ◌, get_or, drop, arith, append_assoc, Err, Some, ◌∙◌}
use Rattle.std.proofs.lemmas.Int.{to_z-of_z}
use Rattle.lin_base.specs.Sum.{scale_terms}
use Rattle.lin_base.specs.Steps.{first_wide, scale_terms_steps}
use Rattle.lin_base.proofs.Forming.{forming, formed_by-wide}
use Rattle.lin_base.proofs.Scaling.{scale_terms_steps-drop, scale_terms-drop, with_term-append}
use Rattle.lin_base.proofs.changes.scale_terms.Goals as goal

pub returns-in_err-product : goal.returns-in_err-product
returns-in_err-product c =
    let steps = scale_terms_steps-drop c.args.k c.args.terms.now c.loop-term.term-index c.loop-term-test.true in
    let w = c.in_err-product.field-0.0 in
    let is : c.from_residual.result ≡ Err w = grind (arith, forming) in
    let wide : first_wide (scale_terms_steps c.args.k c.args.terms.now) ≡ Some w = grind (arith, forming) in
    is ∙ formed_by-wide (scale_terms_steps c.args.k c.args.terms.now) (scale_terms c.args.k c.args.terms.now) w wide

pub loop-term-preserved : goal.loop-term-preserved
loop-term-preserved c =
    let i = c.loop-term.term-index in
    let e = get_or c.args.terms.now i (0, pos 0) in
    let steps = scale_terms_steps-drop c.args.k c.args.terms.now i c.loop-term-test.true in
    let terms = scale_terms-drop c.args.k c.args.terms.now i c.loop-term-test.true in
    let front = with_term-append e.0 (c.args.k *ℤ e.1) (scale_terms c.args.k (drop (i + 1) c.args.terms.now)) in
    let k = to_z-of_z _ _ c.ranges.k in
    (grind (arith, forming), grind (arith, forming, append_assoc), grind (arith, forming))
