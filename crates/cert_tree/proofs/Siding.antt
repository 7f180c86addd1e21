-- A negated sum, seen from an unknown.
use Rattle.std.specs.Prelude.{◌≡◌, ℕ, ℤ, pos, negsuc, ◌+ℤ◌, ◌*ℤ◌, neg_ℤ, Bool, true, false, not, ◌==◌, [], ◌∷◌, ◌⊎◌, if◌then◌else◌}
use Rattle.std.specs.List.{filter}
use Rattle.std.proofs.Common.{refl, sym, ◌∙◌, ap, arith, inl, inr}
use Rattle.std.proofs.lemmas.Int.{ints}
use Rattle.std.proofs.lemmas.Bool.{cond_both, cases_Bool}
use Rattle.std.proofs.Math.IntN.{*ℤ-zero}
use Rattle.lin_base.specs.declared.sums.Lin.{Lin}
use Rattle.lin_base.specs.Whole.{is_zero}
use Rattle.lin_base.specs.Sum.{Terms, coef, coef_in, with_term, scale_terms, without, negated}
use Rattle.lin_base.proofs.Ring.{mul-add, neg-mul, one_mul, is_zero_out}
use Rattle.lin_base.proofs.WellFormed.{is_lin-without}
use Rattle.cert_tree.proofs.Forming.{forming, is_lin-negated}

-- ---- the coefficient of a multiple
coef_in-with_term : (x y : ℕ) (k : ℤ) (ts : Terms) → coef_in x (with_term y k ts) ≡ (if y == x then k +ℤ coef_in x ts else coef_in x ts)
coef_in-with_term x y k ts = elim (cases_Bool (is_zero k)) [
  | inl z ↦ rw z (cond_both (y == x) (k +ℤ coef_in x ts) (coef_in x ts) (λ c. coef_in x ts ≡ c) (λ _. let e = is_zero_out k z in omega (arith, ints, e)) (λ _. refl))
  | inr n ↦ rw n refl
]

coef_in-scale : (x : ℕ) (k : ℤ) (ts : Terms) → coef_in x (scale_terms k ts) ≡ k *ℤ coef_in x ts
coef_in-scale x k [] = sym (*ℤ-zero k)
coef_in-scale x k ((y, l) ∷ ts) = coef_in-with_term x y (k *ℤ l) (scale_terms k ts) ∙ by_unknown (y == x) (coef_in-scale x k ts)
  where
    by_unknown : (b : Bool) → coef_in x (scale_terms k ts) ≡ k *ℤ coef_in x ts → (if b then k *ℤ l +ℤ coef_in x (scale_terms k ts) else coef_in x (scale_terms k ts)) ≡ k *ℤ (if b then l +ℤ coef_in x ts else coef_in x ts)
    by_unknown true e = ap (λ c. k *ℤ l +ℤ c) e ∙ sym (mul-add k l (coef_in x ts))
    by_unknown false e = e

minus_one : (z : ℤ) → negsuc 0 *ℤ z ≡ neg_ℤ z
minus_one z = neg-mul (pos 1) z ∙ ap neg_ℤ (one_mul z)

pub coef-negated : (x : ℕ) (t : Lin) → coef x (negated t) ≡ neg_ℤ (coef x t)
coef-negated x t = coef_in-scale x (negsuc 0) t.coefs ∙ minus_one (coef x t)

-- ---- the rest of a multiple
filter-with_term : (x y : ℕ) (k : ℤ) (ts : Terms) → filter (λ e. not (e.0 == x)) (with_term y k ts) ≡ (if y == x then filter (λ e. not (e.0 == x)) ts else with_term y k (filter (λ e. not (e.0 == x)) ts))
filter-with_term x y k ts = elim (cases_Bool (is_zero k)) [
  | inl z ↦ rw z (cond_both (y == x) (filter (λ e. not (e.0 == x)) ts) (filter (λ e. not (e.0 == x)) ts) (λ us. filter (λ e. not (e.0 == x)) ts ≡ us) (λ _. refl) (λ _. refl))
  | inr n ↦ rw n (elim (cases_Bool (y == x)) [ inl e ↦ rw e refl | inr d ↦ rw d refl ])
]

filter-scale : (x : ℕ) (k : ℤ) (ts : Terms) → filter (λ e. not (e.0 == x)) (scale_terms k ts) ≡ scale_terms k (filter (λ e. not (e.0 == x)) ts)
filter-scale x k [] = refl
filter-scale x k ((y, l) ∷ ts) = filter-with_term x y (k *ℤ l) (scale_terms k ts) ∙ by_unknown (cases_Bool (y == x)) (filter-scale x k ts)
  where
    by_unknown : ((y == x) ≡ true) ⊎ ((y == x) ≡ false) → filter (λ e. not (e.0 == x)) (scale_terms k ts) ≡ scale_terms k (filter (λ e. not (e.0 == x)) ts)
        → (if y == x then filter (λ e. not (e.0 == x)) (scale_terms k ts) else with_term y (k *ℤ l) (filter (λ e. not (e.0 == x)) (scale_terms k ts))) ≡ scale_terms k (filter (λ e. not (e.0 == x)) ((y, l) ∷ ts))
    by_unknown (inl e) h = rw e h
    by_unknown (inr d) h = rw d (ap (with_term y (k *ℤ l)) h)

pub without-negated : (x : ℕ) (t : Lin) → without x (negated t) ≡ negated (without x t)
without-negated x t = ap (λ ts. let s : Lin = record { coefs = ts; constant = negsuc 0 *ℤ t.constant } in s) (filter-scale x (negsuc 0) t.coefs)

pub minus : (z : ℤ) → negsuc 0 *ℤ z ≡ neg_ℤ z
minus z = minus_one z

pub ruleset siding = (forming, is_lin-negated, is_lin-without, coef-negated, without-negated, minus)
