-- Tests of equality of sums.
use Rattle.std.specs.Prelude.{◌≡◌, ℕ, ℤ, Bool, true, ◌&&◌, [], ◌∷◌, nat_eq}
use Rattle.std.specs.Ordering.{int_eq}
use Rattle.std.specs.Cmp.Lexicographic.{pointwise}
use Rattle.std.proofs.Common.{refl, sym, ◌∙◌, ap, arith}
use Rattle.std.proofs.lemmas.Bool.{and_parts, and_from}
use Rattle.std.proofs.lemmas.Bool.Decides.{nat_tests, Decides-int_eq}
use Rattle.lin_base.specs.declared.sums.Lin.{Lin}
use Rattle.lin_base.specs.Sum.{Terms}

abbrev pub same_term : ℕ × ℤ → ℕ × ℤ → Bool
same_term e f = nat_eq e.0 f.0 && int_eq e.1 f.1

same_pair : (e f : ℕ × ℤ) → e.0 ≡ f.0 → e.1 ≡ f.1 → e ≡ f
same_pair e f p q = ap (λ x. let r : ℕ × ℤ = (x, e.1) in r) p ∙ ap (λ k. let r : ℕ × ℤ = (f.0, k) in r) q

pub terms_same : (ts us : Terms) → pointwise same_term ts us ≡ true → ts ≡ us
terms_same [] [] h = refl
terms_same [] (f ∷ us) h = cc
terms_same (e ∷ ts) [] h = cc
terms_same (e ∷ ts) (f ∷ us) h =
    let both = and_parts (same_term e f) (pointwise same_term ts us) h in
    let parts = and_parts (nat_eq e.0 f.0) (int_eq e.1 f.1) both.0 in
    let unknown : e.0 ≡ f.0 = grind (arith, nat_tests) in
    let first : e ≡ f = same_pair e f unknown ((Decides-int_eq e.1 f.1).0 parts.1) in
    ap (λ g. g ∷ ts) first ∙ ap (λ vs. f ∷ vs) (terms_same ts us both.1)

same_terms_refl : (ts : Terms) → pointwise same_term ts ts ≡ true
same_terms_refl [] = refl
same_terms_refl (e ∷ ts) =
    let unknown : nat_eq e.0 e.0 ≡ true = grind (arith, nat_tests) in
    and_from _ _ (and_from _ _ unknown ((Decides-int_eq e.1 e.1).1 refl)) (same_terms_refl ts)

pub same_terms : (ts us : Terms) → ts ≡ us → pointwise same_term ts us ≡ true
same_terms ts us e = ap (λ vs. pointwise same_term ts vs) (sym e) ∙ same_terms_refl ts

pub same_lin : (t u : Lin) → t.coefs ≡ u.coefs → t.constant ≡ u.constant → t ≡ u
same_lin t u p q = ap (λ ts. let r : Lin = record { coefs = ts; constant = t.constant } in r) p ∙ ap (λ c. let r : Lin = record { coefs = u.coefs; constant = c } in r) q
