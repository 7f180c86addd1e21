-- The values of sums.
use Rattle.std.specs.Prelude.{◌≡◌, ℕ, ℤ, pos, negsuc, ◌+ℤ◌, ◌*ℤ◌, neg_ℤ, Bool, true, false, not, cond, ◌==◌, ◌||◌, nat_lt, [], ◌∷◌, if◌then◌else◌}
use Rattle.std.specs.List.{filter, list_all, list_any}
use Rattle.std.proofs.Common.{refl, sym, ◌∙◌, ap, arith}
use Rattle.std.proofs.lemmas.Int.{ints}
use Rattle.std.proofs.lemmas.Bool.{cond_both, eqb-true, and_parts, and_from, both_ways, not-true, eqb-false, true≢false}
use Rattle.std.proofs.Math.IntN.{zero-*ℤ, *ℤ-zero, *ℤ_comm}
use Rattle.lin_base.specs.declared.sums.Lin.{Lin}
use Rattle.lin_base.specs.Whole.{is_zero}
use Rattle.lin_base.specs.Sum.{Terms, Valuation, value, value_of_terms, coef, coef_in, without, number, with_term, add_term, add_terms, scale_terms, add, scale, negated, add_number, above, each_unknown, assigned, occurs}
use Rattle.lin_base.specs.Change.{replace_in}
use Rattle.lin_base.specs.Combine.{add_scaled}
use Rattle.lin_base.proofs.Ring.{mul-add, add-mul, mul_assoc, is_zero_out, one_mul, neg-mul, replaced_value}

module _ (v : Valuation) where
  pub value-with_term : (x : ℕ) (k : ℤ) (ts : Terms) → value_of_terms v (with_term x k ts) ≡ k *ℤ v x +ℤ value_of_terms v ts
  value-with_term x k ts =
      cond_both (is_zero k) ts ((x, k) ∷ ts) (λ us. value_of_terms v us ≡ k *ℤ v x +ℤ value_of_terms v ts)
      (λ e. omega (arith, ints, ap (λ z. z *ℤ v x) (is_zero_out k e), zero-*ℤ (v x))) (λ e. refl)

  pub value-add_term : (x : ℕ) (k : ℤ) (ts : Terms) → value_of_terms v (add_term x k ts) ≡ k *ℤ v x +ℤ value_of_terms v ts
  value-add_term x k [] = refl
  value-add_term x k ((y, l) ∷ ts) =
      let P : Terms → Type 0 = λ us. value_of_terms v us ≡ k *ℤ v x +ℤ value_of_terms v ((y, l) ∷ ts) in
      cond_both (nat_lt x y) ((x, k) ∷ (y, l) ∷ ts) (if x == y then with_term x (k +ℤ l) ts else (y, l) ∷ add_term x k ts) P
      (λ e. refl)
      (λ e. cond_both (x == y) (with_term x (k +ℤ l) ts) ((y, l) ∷ add_term x k ts) P
      (λ same. omega (arith, ints, value-with_term x (k +ℤ l) ts, add-mul k l (v x), ap (λ z. l *ℤ v z) (eqb-true x y same)))
      (λ _. omega (arith, ints, value-add_term x k ts)))

  pub value-add_terms : (ts us : Terms) → value_of_terms v (add_terms ts us) ≡ value_of_terms v ts +ℤ value_of_terms v us
  value-add_terms [] us = omega (arith, ints)
  value-add_terms ((x, k) ∷ ts) us = omega (arith, ints, value-add_term x k (add_terms ts us), value-add_terms ts us)

  pub value-scale_terms : (k : ℤ) (ts : Terms) → value_of_terms v (scale_terms k ts) ≡ k *ℤ value_of_terms v ts
  value-scale_terms k [] = sym (*ℤ-zero k)
  value-scale_terms k ((x, l) ∷ ts) =
      omega (arith, ints, value-with_term x (k *ℤ l) (scale_terms k ts), value-scale_terms k ts, mul_assoc k l (v x), mul-add k (l *ℤ v x) (value_of_terms v ts))

  pub value-add : (t u : Lin) → value v (add t u) ≡ value v t +ℤ value v u
  value-add t u = omega (arith, ints, value-add_terms t.coefs u.coefs)

  pub value-scale : (k : ℤ) (t : Lin) → value v (scale k t) ≡ k *ℤ value v t
  value-scale k t = omega (arith, ints, value-scale_terms k t.coefs, mul-add k (value_of_terms v t.coefs) t.constant)

  pub value-negated : (t : Lin) → value v (negated t) ≡ neg_ℤ (value v t)
  value-negated t = omega (arith, ints, value-scale (negsuc 0) t, neg-mul (pos 1) (value v t), one_mul (value v t))

  pub value-add_scaled : (so_far t : Lin) (k : ℤ) → value v (add_scaled so_far k t) ≡ value v so_far +ℤ k *ℤ value v t
  value-add_scaled so_far t k = omega (arith, ints, value-add so_far (scale k t), value-scale k t)

  pub value-number : (c : ℤ) → value v (number c) ≡ c
  value-number c = omega (arith, ints)

  pub value-add_number : (t : Lin) (c : ℤ) → value v (add_number t c) ≡ value v t +ℤ c
  value-add_number t c = omega (arith, ints, value-add t (number c), value-number c)

  pub value-above : (t : Lin) → value v (above t) ≡ neg_ℤ (value v t) +ℤ pos 1
  value-above t = value-add_number (negated t) (pos 1) ∙ ap (λ z. z +ℤ pos 1) (value-negated t)

  split_cons : (x y : ℕ) (k : ℤ) (ts : Terms) (b : Bool) → (y == x) ≡ b → value_of_terms v ts ≡ coef_in x ts *ℤ v x +ℤ value_of_terms v (filter (λ e. not (e.0 == x)) ts) → k *ℤ v y +ℤ value_of_terms v ts ≡ (if b then k +ℤ coef_in x ts else coef_in x ts) *ℤ v x +ℤ value_of_terms v (cond (not b) ((y, k) ∷ filter (λ e. not (e.0 == x)) ts) (filter (λ e. not (e.0 == x)) ts))
  split_cons x y k ts true e h = omega (arith, ints, h, add-mul k (coef_in x ts) (v x), ap (λ z. k *ℤ v z) (eqb-true y x e))
  split_cons x y k ts false e h = omega (arith, ints, h)

  split_terms : (x : ℕ) (ts : Terms) → value_of_terms v ts ≡ coef_in x ts *ℤ v x +ℤ value_of_terms v (filter (λ e. not (e.0 == x)) ts)
  split_terms x [] = omega (arith, ints, zero-*ℤ (v x))
  split_terms x ((y, k) ∷ ts) = split_cons x y k ts (y == x) refl (split_terms x ts)

  -- a sum is its term at x and the rest
  pub value-split : (x : ℕ) (t : Lin) → value v t ≡ coef x t *ℤ v x +ℤ value v (without x t)
  value-split x t = omega (arith, ints, split_terms x t.coefs)

  -- b*T + a*u, where T is a*x
  pub value-replace_in : (x : ℕ) (a : ℤ) (t s : Lin) → value v t ≡ a *ℤ v x → value v (replace_in x a t s) ≡ a *ℤ value v s
  value-replace_in x a t s e =
      value-add (scale (coef x s) t) (scale a (without x s))
      ∙ ap (λ z. z +ℤ value v (scale a (without x s))) (value-scale (coef x s) t ∙ ap (λ z. coef x s *ℤ z) e)
      ∙ ap (λ z. coef x s *ℤ (a *ℤ v x) +ℤ z) (value-scale a (without x s))
      ∙ replaced_value a (coef x s) (v x) (value v (without x s))
      ∙ ap (λ z. a *ℤ z) (sym (value-split x s))

or_none : (a b : Bool) → (a || b) ≡ false → (a ≡ false) × (b ≡ false)
or_none true b e = absurd (true≢false e)
or_none false b e = (refl, e)

-- ---- sums that say the same at two valuations
module _ (test : ℕ → Bool) (v w : Valuation) (agree : (x : ℕ) → test x ≡ true → v x ≡ w x) where
  same_terms : (ts : Terms) → list_all (λ e. test e.0) ts ≡ true → value_of_terms v ts ≡ value_of_terms w ts
  same_terms [] h = refl
  same_terms ((x, k) ∷ ts) h =
      let both = and_parts (test x) (list_all (λ e. test e.0) ts) h in
      omega (arith, ints, ap (λ z. k *ℤ z) (agree x both.0), same_terms ts both.1)

  pub same_value : (t : Lin) → each_unknown test t ≡ true → value v t ≡ value w t
  same_value t h = ap (λ z. z +ℤ t.constant) (same_terms t.coefs h)

-- ---- another value at one unknown
pub assigned-same : (v : Valuation) (x : ℕ) (z : ℤ) → assigned x z v x ≡ z
assigned-same v x z = cond_both (x == x) z (v x) (λ w. w ≡ z) (λ _. refl) (λ e. absurd (eqb-false x x e refl))

pub assigned-other : (v : Valuation) (x y : ℕ) (z : ℤ) → not (y == x) ≡ true → assigned x z v y ≡ v y
assigned-other v x y z h = cond_both (y == x) z (v y) (λ w. w ≡ v y) (λ e. absurd (both_ways _ (not-true _ h) e)) (λ _. refl)

without_passes : (x : ℕ) (ts : Terms) → list_all (λ e. not (e.0 == x)) (filter (λ e. not (e.0 == x)) ts) ≡ true
without_passes x [] = refl
without_passes x (t ∷ ts) =
    cond_both (not (t.0 == x)) (t ∷ filter (λ e. not (e.0 == x)) ts) (filter (λ e. not (e.0 == x)) ts) (λ us. list_all (λ e. not (e.0 == x)) us ≡ true)
    (λ e. and_from _ _ e (without_passes x ts)) (λ _. without_passes x ts)

pub value-assigned : (v : Valuation) (x : ℕ) (z : ℤ) (t : Lin) → value (assigned x z v) t ≡ coef x t *ℤ z +ℤ value v (without x t)
value-assigned v x z t =
    let s = value-split (assigned x z v) x t in
    let here = ap (λ w. coef x t *ℤ w) (assigned-same v x z) in
    let rest = same_value (λ y. not (y == x)) (assigned x z v) v (λ y h. assigned-other v x y z h) (without x t) (without_passes x t.coefs) in
    omega (arith, ints)

absent_coef : (x : ℕ) (ts : Terms) → list_any (λ e. e.0 == x) ts ≡ false → coef_in x ts ≡ pos 0
absent_coef x [] h = refl
absent_coef x ((y, k) ∷ ts) h =
    let both = or_none (y == x) (list_any (λ e. e.0 == x) ts) h in
    cond_both (y == x) (k +ℤ coef_in x ts) (coef_in x ts) (λ w. w ≡ pos 0) (λ e. absurd (both_ways _ both.0 e)) (λ _. absent_coef x ts both.1)

pub coef-absent : (x : ℕ) (t : Lin) → occurs x t ≡ false → coef x t ≡ pos 0
coef-absent x t h = absent_coef x t.coefs h

-- ---- a coefficient is the value where its unknown is 1 and each other one 0
abbrev unit : ℕ → Valuation
unit x y = if y == x then pos 1 else pos 0

coef_cons : (b : Bool) (k c w : ℤ) → c ≡ w → (if b then k +ℤ c else c) ≡ k *ℤ (if b then pos 1 else pos 0) +ℤ w
coef_cons true k c w e = omega (arith, ints, e, one_mul k, *ℤ_comm k (pos 1))
coef_cons false k c w e = omega (arith, ints, e, *ℤ-zero k)

coef_is_value : (x : ℕ) (ts : Terms) → coef_in x ts ≡ value_of_terms (unit x) ts
coef_is_value x [] = refl
coef_is_value x ((y, k) ∷ ts) = coef_cons (y == x) k (coef_in x ts) (value_of_terms (unit x) ts) (coef_is_value x ts)

pub coef-add : (x : ℕ) (t u : Lin) → coef x (add t u) ≡ coef x t +ℤ coef x u
coef-add x t u =
    coef_is_value x (add_terms t.coefs u.coefs) ∙ value-add_terms (unit x) t.coefs u.coefs
    ∙ ap (λ z. z +ℤ value_of_terms (unit x) u.coefs) (sym (coef_is_value x t.coefs)) ∙ ap (λ z. coef x t +ℤ z) (sym (coef_is_value x u.coefs))

pub coef-scale : (x : ℕ) (k : ℤ) (t : Lin) → coef x (scale k t) ≡ k *ℤ coef x t
coef-scale x k t =
    coef_is_value x (scale_terms k t.coefs) ∙ value-scale_terms (unit x) k t.coefs ∙ ap (λ z. k *ℤ z) (sym (coef_is_value x t.coefs))
