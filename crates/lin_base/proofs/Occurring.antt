-- Which unknowns occur in what is formed of sums.
use Rattle.std.specs.Prelude.{◌≡◌, ◌≢◌, ℕ, ℤ, pos, negsuc, neg_ℤ, ◌+ℤ◌, ◌*ℤ◌, Bool, true, false, not, ◌==◌, nat_lt, ◌&&◌, ◌||◌, [], ◌∷◌, ◌⊎◌, if◌then◌else◌}
use Rattle.std.specs.List.{list_any, filter}
use Rattle.std.proofs.Common.{refl, sym, ◌∙◌, ap, arith, inl, inr}
use Rattle.std.proofs.lemmas.Int.{ints}
use Rattle.std.proofs.lemmas.Bool.{cond_both, cases_Bool, and_parts, not-true, true≢false, eqb-true}
use Rattle.std.proofs.lemmas.Bool.Decides.{nat_tests}
use Rattle.lin_base.specs.declared.sums.Lin.{Lin}
use Rattle.lin_base.specs.Whole.{is_zero}
use Rattle.lin_base.specs.Sum.{Terms, is_reduced, with_term, add_term, add_terms, scale_terms, coef_in, coef, occurs, add, scale, negated, add_number, above, without}
use Rattle.lin_base.specs.Fact.{is_ascending, is_lin}
use Rattle.lin_base.proofs.Ring.{neg-mul, one_mul, is_zero_in, is_zero_out}
use Rattle.lin_base.proofs.Merging.{ascending_parts, add_terms-nil}
use Rattle.lin_base.proofs.Lookup.{coef_in-first}
use Rattle.lin_base.proofs.WellFormed.{is_lin-scale}

abbrev occurs_in : ℕ → Terms → Bool
occurs_in x ts = list_any (λ e. e.0 == x) ts

or_parts : (a b : Bool) → (a || b) ≡ false → (a ≡ false) × (b ≡ false)
or_parts true b h = absurd (true≢false h)
or_parts false b h = (refl, h)

-- ---- the sum without a term
other : (x y z : ℕ) → (y == x) ≡ false → (z == x) ≡ true → (z == y) ≡ false
other x y z d e = grind (arith, nat_tests)

kept : (x y : ℕ) (ts : Terms) → (y == x) ≡ false → occurs_in y (filter (λ e. not (e.0 == x)) ts) ≡ occurs_in y ts
kept x y [] d = refl
kept x y ((z, k) ∷ ts) d = elim (cases_Bool (z == x)) [
  | inl e ↦ rw e (rw (other x y z d e) (kept x y ts d))
  | inr n ↦ rw n (ap (λ b. (z == y) || b) (kept x y ts d))
]

dropped : (x : ℕ) (ts : Terms) → occurs_in x (filter (λ e. not (e.0 == x)) ts) ≡ false
dropped x [] = refl
dropped x ((z, k) ∷ ts) = elim (cases_Bool (z == x)) [
  | inl e ↦ rw e (dropped x ts)
  | inr n ↦ rw n (rw n (dropped x ts))
]

pub occurs-without : (x y : ℕ) (t : Lin) → occurs y (without x t) ≡ (not (y == x) && occurs y t)
occurs-without x y t = elim (cases_Bool (y == x)) [
  | inl e ↦ rw e (ap (λ z. occurs_in z (filter (λ u. not (u.0 == x)) t.coefs)) (eqb-true y x e) ∙ dropped x t.coefs)
  | inr d ↦ rw d (kept x y t.coefs d)
]

filter-absent : (x : ℕ) (ts : Terms) → occurs_in x ts ≡ false → filter (λ e. not (e.0 == x)) ts ≡ ts
filter-absent x [] h = refl
filter-absent x ((y, k) ∷ ts) h =
    let both = or_parts (y == x) (occurs_in x ts) h in
    rw both.0 (ap (λ us. (y, k) ∷ us) (filter-absent x ts both.1))

pub without-absent : (x : ℕ) (t : Lin) → occurs x t ≡ false → without x t ≡ t
without-absent x t h = ap (λ ts. let s : Lin = record { coefs = ts; constant = t.constant } in s) (filter-absent x t.coefs h)

-- ---- multiples
absent-with_term : (x y : ℕ) (k : ℤ) (ts : Terms) → (y == x) ≡ false → occurs_in x ts ≡ false → occurs_in x (with_term y k ts) ≡ false
absent-with_term x y k ts d h = cond_both (is_zero k) ts ((y, k) ∷ ts) (λ us. occurs_in x us ≡ false) (λ _. h) (λ _. rw d h)

absent-scale_terms : (x : ℕ) (k : ℤ) (ts : Terms) → occurs_in x ts ≡ false → occurs_in x (scale_terms k ts) ≡ false
absent-scale_terms x k [] h = refl
absent-scale_terms x k ((y, l) ∷ ts) h =
    let both = or_parts (y == x) (occurs_in x ts) h in
    absent-with_term x y (k *ℤ l) (scale_terms k ts) both.0 (absent-scale_terms x k ts both.1)

pub occurs-scale : (x : ℕ) (k : ℤ) (t : Lin) → occurs x t ≡ false → occurs x (scale k t) ≡ false
occurs-scale x k t h = absent-scale_terms x k t.coefs h

minus_one : (z : ℤ) → negsuc 0 *ℤ z ≡ neg_ℤ z
minus_one z = neg-mul (pos 1) z ∙ ap neg_ℤ (one_mul z)

nonzero-negated : (k : ℤ) → not (is_zero k) ≡ true → is_zero (negsuc 0 *ℤ k) ≡ false
nonzero-negated k n = elim (cases_Bool (is_zero (negsuc 0 *ℤ k))) [
  | inl e ↦ absurd (true≢false (sym n ∙ ap not (is_zero_in k (let z = is_zero_out (negsuc 0 *ℤ k) e in omega (arith, ints, z, minus_one k)))))
  | inr d ↦ d
]

same-negated : (x : ℕ) (ts : Terms) → is_reduced ts ≡ true → occurs_in x (scale_terms (negsuc 0) ts) ≡ occurs_in x ts
same-negated x [] h = refl
same-negated x ((y, k) ∷ ts) h =
    let both = and_parts (not (is_zero k)) (is_reduced ts) h in
    rw (nonzero-negated k both.0) (ap (λ b. (y == x) || b) (same-negated x ts both.1))

pub occurs-negated : (x : ℕ) (t : Lin) → is_lin t ≡ true → occurs x (negated t) ≡ occurs x t
occurs-negated x t h = same-negated x t.coefs (and_parts (is_ascending t.coefs) (is_reduced t.coefs) h).1

-- ---- sums
absent-add_term : (x y : ℕ) (k : ℤ) (us : Terms) → (y == x) ≡ false → occurs_in x us ≡ false → occurs_in x (add_term y k us) ≡ false
absent-add_term x y k [] d h = rw d refl
absent-add_term x y k ((z, l) ∷ us) d h =
    let both = or_parts (z == x) (occurs_in x us) h in
    let P : Terms → Type 0 = λ ts. occurs_in x ts ≡ false in
    cond_both (nat_lt y z) ((y, k) ∷ (z, l) ∷ us) (if y == z then with_term y (k +ℤ l) us else (z, l) ∷ add_term y k us) P
    (λ _. rw d h)
    (λ _. cond_both (y == z) (with_term y (k +ℤ l) us) ((z, l) ∷ add_term y k us) P
    (λ _. absent-with_term x y (k +ℤ l) us d both.1)
    (λ _. rw both.0 (absent-add_term x y k us d both.1)))

absent-add_terms : (x : ℕ) (ts us : Terms) → occurs_in x ts ≡ false → occurs_in x us ≡ false → occurs_in x (add_terms ts us) ≡ false
absent-add_terms x [] us h g = g
absent-add_terms x ((y, k) ∷ ts) us h g =
    let both = or_parts (y == x) (occurs_in x ts) h in
    absent-add_term x y k (add_terms ts us) both.0 (absent-add_terms x ts us both.1 g)

pub occurs-add : (x : ℕ) (t u : Lin) → occurs x t ≡ false → occurs x u ≡ false → occurs x (add t u) ≡ false
occurs-add x t u h g = absent-add_terms x t.coefs u.coefs h g

pub occurs-add_number : (x : ℕ) (t : Lin) (c : ℤ) → is_lin t ≡ true → occurs x (add_number t c) ≡ occurs x t
occurs-add_number x t c h = ap (occurs_in x) (add_terms-nil t.coefs (and_parts (is_ascending t.coefs) (is_reduced t.coefs) h).0)

pub occurs-above : (x : ℕ) (t : Lin) → is_lin t ≡ true → occurs x (above t) ≡ occurs x t
occurs-above x t h = occurs-add_number x (negated t) (pos 1) (is_lin-scale (negsuc 0) t h) ∙ occurs-negated x t h

-- ---- the coefficient of what occurs
coefficient_in : (x : ℕ) (ts : Terms) → is_ascending ts ≡ true → is_reduced ts ≡ true → occurs_in x ts ≡ true → is_zero (coef_in x ts) ≡ false
coefficient_in x [] h r o = absurd (true≢false (sym o))
coefficient_in x ((y, k) ∷ ts) h r o =
    let both = and_parts (not (is_zero k)) (is_reduced ts) r in
    elim (cases_Bool (y == x)) [
      | inl e ↦
          let first : coef_in x ((y, k) ∷ ts) ≡ k = ap (λ z. coef_in z ((y, k) ∷ ts)) (sym (eqb-true y x e)) ∙ coef_in-first (y, k) ts h in
          ap is_zero first ∙ not-true (is_zero k) both.0
      | inr d ↦ rw d (coefficient_in x ts (ascending_parts (y, k) ts h).1 both.1 (rw d at o))
    ]

pub coef-occurring : (x : ℕ) (t : Lin) → is_lin t ≡ true → occurs x t ≡ true → coef x t ≢ pos 0
coef-occurring x t h o z =
    let parts = and_parts (is_ascending t.coefs) (is_reduced t.coefs) h in
    true≢false (sym (is_zero_in (coef x t) z) ∙ coefficient_in x t.coefs parts.0 parts.1 o)

-- ---- the rest of a multiple
filter-with_term : (x y : ℕ) (k : ℤ) (ts : Terms) → filter (λ e. not (e.0 == x)) (with_term y k ts) ≡ (if y == x then filter (λ e. not (e.0 == x)) ts else with_term y k (filter (λ e. not (e.0 == x)) ts))
filter-with_term x y k ts = elim (cases_Bool (is_zero k)) [
  | inl z ↦ rw z (cond_both (y == x) (filter (λ e. not (e.0 == x)) ts) (filter (λ e. not (e.0 == x)) ts) (λ us. filter (λ e. not (e.0 == x)) ts ≡ us) (λ _. refl) (λ _. refl))
  | inr n ↦ rw n (elim (cases_Bool (y == x)) [ inl e ↦ rw e refl | inr d ↦ rw d refl ])
]

filter-scale_terms : (x : ℕ) (k : ℤ) (ts : Terms) → filter (λ e. not (e.0 == x)) (scale_terms k ts) ≡ scale_terms k (filter (λ e. not (e.0 == x)) ts)
filter-scale_terms x k [] = refl
filter-scale_terms x k ((y, l) ∷ ts) = filter-with_term x y (k *ℤ l) (scale_terms k ts) ∙ by_unknown (cases_Bool (y == x)) (filter-scale_terms x k ts)
  where
    by_unknown : ((y == x) ≡ true) ⊎ ((y == x) ≡ false) → filter (λ e. not (e.0 == x)) (scale_terms k ts) ≡ scale_terms k (filter (λ e. not (e.0 == x)) ts)
        → (if y == x then filter (λ e. not (e.0 == x)) (scale_terms k ts) else with_term y (k *ℤ l) (filter (λ e. not (e.0 == x)) (scale_terms k ts))) ≡ scale_terms k (filter (λ e. not (e.0 == x)) ((y, l) ∷ ts))
    by_unknown (inl e) h = rw e h
    by_unknown (inr d) h = rw d (ap (with_term y (k *ℤ l)) h)

pub without-scale : (x : ℕ) (k : ℤ) (t : Lin) → without x (scale k t) ≡ scale k (without x t)
without-scale x k t = ap (λ ts. let s : Lin = record { coefs = ts; constant = k *ℤ t.constant } in s) (filter-scale_terms x k t.coefs)

pub without-negated : (x : ℕ) (t : Lin) → without x (negated t) ≡ negated (without x t)
without-negated x t = without-scale x (negsuc 0) t
