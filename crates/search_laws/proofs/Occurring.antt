-- Which unknowns occur in what is made of sums and facts: a replacement brings in those of the sum that is put, and no other.
use Rattle.std.specs.Prelude.{◌≡◌, ℕ, ◌==◌, nat_lt, ℤ, pos, negsuc, ◌+ℤ◌, ◌*ℤ◌, Bool, true, false, not, int_lt, List, [], ◌∷◌, ◌++◌, map, if◌then◌else◌}
use Rattle.std.specs.List.{list_all, list_any, filter}
use Rattle.std.proofs.Common.{refl, sym, ◌∙◌, ap, subst, inl, inr}
use Rattle.std.proofs.lemmas.Bool.{cond_both, cases_Bool, and_parts, and_from, or_cases, eqb-true, false≢true, not-true}
use Rattle.std.proofs.lemmas.List.Folds.{list_all-append}
use Rattle.lin_base.specs.declared.sums.Lin.{Lin}
use Rattle.lin_base.specs.declared.facts.Fact.{Fact}
use Rattle.lin_base.specs.declared.facts.Fact.TheVariants.{AtMostZero, Zero, Divides, NotDivides}
use Rattle.lin_base.specs.Whole.{is_zero, is_same}
use Rattle.lin_base.specs.Sum.{Terms, each_unknown, occurs, coef, with_term, add_term, add_terms, scale_terms, add, scale, number, negated, add_number, above, without}
use Rattle.lin_base.specs.Fact.{sum_of}
use Rattle.lin_base.specs.Change.{replace_in, replaced, replace}
use Rattle.lin_base.proofs.Occurring.{without-absent}
use Rattle.cert_tree.specs.Points.{divides_part, not_divides_part, made_positive, solved}
use Rattle.cert_tree.specs.Rows.{falls_out, stays_in, instance_at, low_at}
use Rattle.cert_tree.specs.Children.{with_value, far_down, far_child}

-- ---- sums
module _ (test : ℕ → Bool) where
  abbrev Passes : Terms → Type 0
  Passes ts = list_all (λ e. test e.0) ts ≡ true

  pass-with_term : (x : ℕ) (k : ℤ) (ts : Terms) → test x ≡ true → Passes ts → Passes (with_term x k ts)
  pass-with_term x k ts h all = cond_both (is_zero k) ts ((x, k) ∷ ts) Passes (λ _. all) (λ _. and_from _ _ h all)

  pass-add_term : (x : ℕ) (k : ℤ) (us : Terms) → test x ≡ true → Passes us → Passes (add_term x k us)
  pass-add_term x k [] h all = and_from _ _ h refl
  pass-add_term x k ((y, l) ∷ us) h all =
      let both = and_parts (test y) (list_all (λ e. test e.0) us) all in
      cond_both (nat_lt x y) ((x, k) ∷ (y, l) ∷ us) (if x == y then with_term x (k +ℤ l) us else (y, l) ∷ add_term x k us) Passes
      (λ _. and_from _ _ h all)
      (λ _. cond_both (x == y) (with_term x (k +ℤ l) us) ((y, l) ∷ add_term x k us) Passes
      (λ _. pass-with_term x (k +ℤ l) us h both.1)
      (λ _. and_from _ _ both.0 (pass-add_term x k us h both.1)))

  pass-add_terms : (ts us : Terms) → Passes ts → Passes us → Passes (add_terms ts us)
  pass-add_terms [] us h all = all
  pass-add_terms ((x, k) ∷ ts) us h all =
      let both = and_parts (test x) (list_all (λ e. test e.0) ts) h in
      pass-add_term x k (add_terms ts us) both.0 (pass-add_terms ts us both.1 all)

  pass-scale_terms : (k : ℤ) (ts : Terms) → Passes ts → Passes (scale_terms k ts)
  pass-scale_terms k [] h = refl
  pass-scale_terms k ((x, l) ∷ ts) h =
      let both = and_parts (test x) (list_all (λ e. test e.0) ts) h in
      pass-with_term x (k *ℤ l) (scale_terms k ts) both.0 (pass-scale_terms k ts both.1)

  pub passes-add : (t u : Lin) → each_unknown test t ≡ true → each_unknown test u ≡ true → each_unknown test (add t u) ≡ true
  passes-add t u h k = pass-add_terms t.coefs u.coefs h k

  pub passes-scale : (k : ℤ) (t : Lin) → each_unknown test t ≡ true → each_unknown test (scale k t) ≡ true
  passes-scale k t h = pass-scale_terms k t.coefs h

  pub passes-negated : (t : Lin) → each_unknown test t ≡ true → each_unknown test (negated t) ≡ true
  passes-negated t h = pass-scale_terms (negsuc 0) t.coefs h

  pub passes-add_number : (t : Lin) (c : ℤ) → each_unknown test t ≡ true → each_unknown test (add_number t c) ≡ true
  passes-add_number t c h = passes-add t (number c) h refl

  pub passes-above : (t : Lin) → each_unknown test t ≡ true → each_unknown test (above t) ≡ true
  passes-above t h = passes-add_number (negated t) (pos 1) (passes-negated t h)

  occurring_in : (x : ℕ) (ts : Terms) → Passes ts → list_any (λ e. e.0 == x) ts ≡ true → test x ≡ true
  occurring_in x [] h o = absurd (false≢true o)
  occurring_in x ((y, k) ∷ ts) h o =
      let both = and_parts (test y) (list_all (λ e. test e.0) ts) h in
      elim (or_cases (y == x) (list_any (λ e. e.0 == x) ts) o) [
        | inl here ↦ ap test (sym (eqb-true y x here)) ∙ both.0
        | inr more ↦ occurring_in x ts both.1 more
      ]

  -- an unknown that occurs passes
  pub passes-occurring : (x : ℕ) (t : Lin) → each_unknown test t ≡ true → occurs x t ≡ true → test x ≡ true
  passes-occurring x t h o = occurring_in x t.coefs h o

-- what passes one test passes the other, but for x
module _ (test other : ℕ → Bool) (x : ℕ) (more : (y : ℕ) → test y ≡ true → (y == x) ≡ false → other y ≡ true) where
  pass-without : (ts : Terms) → list_all (λ e. test e.0) ts ≡ true → list_all (λ e. other e.0) (filter (λ e. not (e.0 == x)) ts) ≡ true
  pass-without [] h = refl
  pass-without ((y, k) ∷ ts) h =
      let both = and_parts (test y) (list_all (λ e. test e.0) ts) h in
      cond_both (not (y == x)) ((y, k) ∷ filter (λ e. not (e.0 == x)) ts) (filter (λ e. not (e.0 == x)) ts) (λ us. list_all (λ e. other e.0) us ≡ true)
      (λ apart. and_from _ _ (more y both.0 (not-true (y == x) apart)) (pass-without ts both.1))
      (λ _. pass-without ts both.1)

  pub passes-without : (t : Lin) → each_unknown test t ≡ true → each_unknown other (without x t) ≡ true
  passes-without t h = pass-without t.coefs h

  pub passes-absent : (t : Lin) → occurs x t ≡ false → each_unknown test t ≡ true → each_unknown other t ≡ true
  passes-absent t o h = subst (λ u. each_unknown other u ≡ true) (without-absent x t o) (passes-without t h)

  pub passes-made : (t : Lin) → each_unknown test t ≡ true → each_unknown other (made_positive x t).rest ≡ true
  passes-made t h = elim (cases_Bool (int_lt (coef x t) (pos 0))) [
    | inl low ↦ rw low (passes-negated other (without x t) (passes-without t h))
    | inr high ↦ rw high (passes-without t h)
  ]

  pub passes-solved : (t : Lin) → each_unknown test t ≡ true → each_unknown other (solved x t).rest ≡ true
  passes-solved t h = passes-negated other (made_positive x t).rest (passes-made t h)

-- weaker tests
pub passes-weaker : (test other : ℕ → Bool) → ((y : ℕ) → test y ≡ true → other y ≡ true) → (t : Lin) → each_unknown test t ≡ true → each_unknown other t ≡ true
passes-weaker test other more t h = weaker t.coefs h
  where
    weaker : (ts : Terms) → list_all (λ e. test e.0) ts ≡ true → list_all (λ e. other e.0) ts ≡ true
    weaker [] h = refl
    weaker ((y, k) ∷ ts) h = let both = and_parts (test y) (list_all (λ e. test e.0) ts) h in and_from _ _ (more y both.0) (weaker ts both.1)

-- ---- facts
-- each unknown of the facts passes
abbrev pub Over : (ℕ → Bool) → List Fact → Type 0
Over test facts = list_all (λ f. each_unknown test (sum_of f)) facts ≡ true

pub over-append : (test : ℕ → Bool) (fs gs : List Fact) → Over test fs → Over test gs → Over test (fs ++ gs)
over-append test fs gs h k = list_all-append (λ f. each_unknown test (sum_of f)) fs gs ∙ and_from _ _ h k

pub over-weaker : (test other : ℕ → Bool) → ((y : ℕ) → test y ≡ true → other y ≡ true) → (fs : List Fact) → Over test fs → Over other fs
over-weaker test other more [] h = refl
over-weaker test other more (f ∷ fs) h =
    let both = and_parts (each_unknown test (sum_of f)) (list_all (λ f. each_unknown test (sum_of f)) fs) h in
    and_from _ _ (passes-weaker test other more (sum_of f) both.0) (over-weaker test other more fs both.1)

module _ (test other : ℕ → Bool) (x : ℕ) (more : (y : ℕ) → test y ≡ true → (y == x) ≡ false → other y ≡ true) where
  module _ (a : ℤ) (t : Lin) (new : each_unknown other t ≡ true) where
    passes-replace_in : (s : Lin) → each_unknown test s ≡ true → each_unknown other (replace_in x a t s) ≡ true
    passes-replace_in s h = passes-add other (scale (coef x s) t) (scale a (without x s)) (passes-scale other (coef x s) t new) (passes-scale other a (without x s) (passes-without test other x more s h))

    passes-replaced : (f : Fact) → each_unknown test (sum_of f) ≡ true → each_unknown other (sum_of (replaced x a t f)) ≡ true
    passes-replaced (AtMostZero s) h = passes-replace_in s h
    passes-replaced (Zero s) h = passes-replace_in s h
    passes-replaced (Divides m s) h = passes-replace_in s h
    passes-replaced (NotDivides m s) h = passes-replace_in s h

    pub passes-replace : (f : Fact) → each_unknown test (sum_of f) ≡ true → each_unknown other (sum_of (replace x a t f)) ≡ true
    passes-replace f h =
        cond_both (occurs x (sum_of f)) (replaced x a t f) f (λ g. each_unknown other (sum_of g) ≡ true)
        (λ _. passes-replaced f h) (λ o. passes-absent test other x more (sum_of f) o h)

    pub over-replace : (fs : List Fact) → Over test fs → Over other (map (replace x a t) fs)
    over-replace [] h = refl
    over-replace (f ∷ fs) h =
        let both = and_parts (each_unknown test (sum_of f)) (list_all (λ f. each_unknown test (sum_of f)) fs) h in
        and_from _ _ (passes-replace f both.0) (over-replace fs both.1)

    pub over-with_value : (fs : List Fact) → Over test fs → Over other (with_value x a t fs)
    over-with_value fs h =
        over-append other (map (replace x a t) fs) (divides_part a t) (over-replace fs h)
        (cond_both (is_same a (pos 1)) [] (Divides a t ∷ []) (Over other) (λ _. refl) (λ _. and_from _ _ new refl))

    pub over-instance_at : (fs : List Fact) → Over test fs → Over other (instance_at x a t fs)
    over-instance_at fs h =
        over-append other (not_divides_part a t) (map (replace x a t) fs)
        (cond_both (is_same a (pos 1)) [] (NotDivides a t ∷ []) (Over other) (λ _. refl) (λ _. and_from _ _ new refl)) (over-replace fs h)

  over-stays_in : (fs : List Fact) → Over test fs → Over test (stays_in x fs)
  over-stays_in [] h = refl
  over-stays_in (f ∷ fs) h =
      let both = and_parts (each_unknown test (sum_of f)) (list_all (λ f. each_unknown test (sum_of f)) fs) h in
      cond_both (not (falls_out x f)) (f ∷ stays_in x fs) (stays_in x fs) (Over test) (λ _. and_from _ _ both.0 (over-stays_in fs both.1)) (λ _. over-stays_in fs both.1)

  pub over-low_at : (j : ℤ) (fs : List Fact) → Over test fs → Over other (low_at x j fs)
  over-low_at j fs h = over-replace (pos 1) (number j) refl (stays_in x fs) (over-stays_in fs h)

  passes-far_down : (j : ℕ) (f : Fact) → each_unknown test (sum_of f) ≡ true → each_unknown other (sum_of (far_down x j f)) ≡ true
  passes-far_down j (AtMostZero t) h =
      cond_both (occurs x t) (AtMostZero (number (pos 0))) (AtMostZero t) (λ g. each_unknown other (sum_of g) ≡ true)
      (λ _. refl) (λ o. passes-absent test other x more t o h)
  passes-far_down j (Zero t) h = passes-replace (pos 1) (number (pos j)) refl (Zero t) h
  passes-far_down j (Divides m t) h = passes-replace (pos 1) (number (pos j)) refl (Divides m t) h
  passes-far_down j (NotDivides m t) h = passes-replace (pos 1) (number (pos j)) refl (NotDivides m t) h

  pub over-far_child : (j : ℕ) (fs : List Fact) → Over test fs → Over other (far_child x fs j)
  over-far_child j [] h = refl
  over-far_child j (f ∷ fs) h =
      let both = and_parts (each_unknown test (sum_of f)) (list_all (λ f. each_unknown test (sum_of f)) fs) h in
      and_from _ _ (passes-far_down j f both.0) (over-far_child j fs both.1)
