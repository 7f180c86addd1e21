use Rattle.std.proofs.Common.{◌≡◌, ◌∙◌, ◌∷◌, [], Err, Ok, arith, ◌+ℤ◌, to_z, of_z}
use Rattle.std.specs.Int.{w128}
use Rattle.std.proofs.lemmas.Int.{to_z-of_z}
use Rattle.std.proofs.lemmas.Grind.{common_steps}
use Rattle.lin_base.specs.Sum.{add, add_terms}
use Rattle.lin_base.specs.Steps.{add_steps, add_terms_steps, adds, formed_by}
use Rattle.lin_base.proofs.Forming.{formed_by-first, formed_by-last, formed_by-both, formed_by-ok, formed_by-narrow}
use Rattle.lin_base.proofs.changes.sum_in.Goals as goal

pub returns-in_err-add_terms : goal.returns-in_err-add_terms
returns-in_err-add_terms c =
    let a = c.args.a.now in
    let b = c.args.b.now in
    let w = c.in_err-add_terms.field-0.0 in
    let is : c.from_residual.result ≡ Err w = grind (arith, common_steps) in
    let told : formed_by (add_terms_steps a.coefs b.coefs) (add_terms a.coefs b.coefs) ≡ Err w = grind (arith, common_steps, to_z-of_z) in
    is ∙ formed_by-first (add_terms_steps a.coefs b.coefs) (adds a.constant b.constant ∷ []) (add_terms a.coefs b.coefs) (add a b) w told

pub returns-in_err-checked_add : goal.returns-in_err-checked_add
returns-in_err-checked_add c =
    let a = c.args.a.now in
    let b = c.args.b.now in
    let w = c.in_err-checked_add.field-0.0 in
    let is : c.from_residual-in_err-checked_add.result ≡ Err w = grind (arith, common_steps) in
    let first : formed_by (add_terms_steps a.coefs b.coefs) (add_terms a.coefs b.coefs) ≡ Ok c.in_ok-add_terms.field-0 = grind (arith, common_steps, to_z-of_z) in
    let told : formed_by (adds a.constant b.constant ∷ []) (a.constant +ℤ b.constant) ≡ Err w = grind (arith, common_steps, to_z-of_z) in
    is ∙ formed_by-last (add_terms_steps a.coefs b.coefs) (adds a.constant b.constant ∷ []) (add_terms a.coefs b.coefs) c.in_ok-add_terms.field-0 (add a b) (a.constant +ℤ b.constant) w first told

pub returns : goal.returns
returns c =
    let a = c.args.a.now in
    let b = c.args.b.now in
    let first : formed_by (add_terms_steps a.coefs b.coefs) (add_terms a.coefs b.coefs) ≡ Ok c.in_ok-add_terms.field-0 = grind (arith, common_steps, to_z-of_z) in
    let last : formed_by (adds a.constant b.constant ∷ []) (a.constant +ℤ b.constant) ≡ Ok (to_z w128 (of_z w128 c.in_ok-checked_add.field-0)) = grind (arith, common_steps, to_z-of_z) in
    let terms = (formed_by-ok (add_terms_steps a.coefs b.coefs) (add_terms a.coefs b.coefs) c.in_ok-add_terms.field-0 first).1 in
    let constant = (formed_by-ok (adds a.constant b.constant ∷ []) (a.constant +ℤ b.constant) _ last).1 in
    formed_by-narrow (add_steps a b) (add a b) _ (formed_by-both (add_terms_steps a.coefs b.coefs) (adds a.constant b.constant ∷ []) (add_terms a.coefs b.coefs) _ (a.constant +ℤ b.constant) _ first last) (grind (arith, common_steps))
