use Rattle.std.proofs.Common.{◌≡◌, ◌∙◌, ◌∷◌, [], Err, Ok, arith, ◌*ℤ◌, to_z, of_z}
use Rattle.std.specs.Int.{w128}
use Rattle.std.proofs.lemmas.Int.{to_z-of_z}
use Rattle.std.proofs.lemmas.Grind.{common_steps}
use Rattle.lin_base.specs.Sum.{scale, scale_terms}
use Rattle.lin_base.specs.Steps.{scale_steps, scale_terms_steps, multiplies, formed_by}
use Rattle.lin_base.proofs.Forming.{formed_by-first, formed_by-last, formed_by-both, formed_by-ok, formed_by-narrow}
use Rattle.lin_base.proofs.changes.multiple_in.Goals as goal

pub returns-in_err-scale_terms : goal.returns-in_err-scale_terms
returns-in_err-scale_terms c =
    let a = c.args.a.now in
    let k = c.args.k in
    let w = c.in_err-scale_terms.field-0.0 in
    let is : c.from_residual.result ≡ Err w = grind (arith, common_steps) in
    let told : formed_by (scale_terms_steps k a.coefs) (scale_terms k a.coefs) ≡ Err w = grind (arith, common_steps, to_z-of_z) in
    is ∙ formed_by-first (scale_terms_steps k a.coefs) (multiplies k a.constant ∷ []) (scale_terms k a.coefs) (scale k a) w told

pub returns-in_err-checked_mul : goal.returns-in_err-checked_mul
returns-in_err-checked_mul c =
    let a = c.args.a.now in
    let k = c.args.k in
    let w = c.in_err-checked_mul.field-0.0 in
    let is : c.from_residual-in_err-checked_mul.result ≡ Err w = grind (arith, common_steps) in
    let first : formed_by (scale_terms_steps k a.coefs) (scale_terms k a.coefs) ≡ Ok c.in_ok-scale_terms.field-0 = grind (arith, common_steps, to_z-of_z) in
    let told : formed_by (multiplies k a.constant ∷ []) (k *ℤ a.constant) ≡ Err w = grind (arith, common_steps, to_z-of_z) in
    is ∙ formed_by-last (scale_terms_steps k a.coefs) (multiplies k a.constant ∷ []) (scale_terms k a.coefs) c.in_ok-scale_terms.field-0 (scale k a) (k *ℤ a.constant) w first told

pub returns : goal.returns
returns c =
    let a = c.args.a.now in
    let k = c.args.k in
    let first : formed_by (scale_terms_steps k a.coefs) (scale_terms k a.coefs) ≡ Ok c.in_ok-scale_terms.field-0 = grind (arith, common_steps, to_z-of_z) in
    let last : formed_by (multiplies k a.constant ∷ []) (k *ℤ a.constant) ≡ Ok (to_z w128 (of_z w128 c.in_ok-checked_mul.field-0)) = grind (arith, common_steps, to_z-of_z) in
    let terms = (formed_by-ok (scale_terms_steps k a.coefs) (scale_terms k a.coefs) c.in_ok-scale_terms.field-0 first).1 in
    let constant = (formed_by-ok (multiplies k a.constant ∷ []) (k *ℤ a.constant) _ last).1 in
    formed_by-narrow (scale_steps k a) (scale k a) _ (formed_by-both (scale_terms_steps k a.coefs) (multiplies k a.constant ∷ []) (scale_terms k a.coefs) _ (k *ℤ a.constant) _ first last) (grind (arith, common_steps))
