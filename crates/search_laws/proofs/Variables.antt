-- Each unknown of a clause is a parameter or one of its variables.
use Rattle.std.specs.Prelude.{◌≡◌, ℕ, ◌==◌, ◌||◌, nat_lt, nat_le, Bool, true, false, cond, List, [], ◌∷◌}
use Rattle.std.specs.List.{list_all, list_any, filter}
use Rattle.std.proofs.Common.{refl, sym, ◌∙◌, ap, subst, inl, inr}
use Rattle.std.proofs.lemmas.Bool.{cond_both, cases_Bool, and_from, or_cases, both_ways, false≢true, eqb-true, eq-eqb, ltb-false, le-leb}
use Rattle.lin_base.specs.declared.facts.Fact.{Fact}
use Rattle.lin_base.specs.Sum.{Terms, occurs}
use Rattle.lin_base.specs.Unknowns.{put_in, put_terms_in}
use Rattle.lin_base.specs.Fact.{sum_of}
use Rattle.cert_tree.specs.Counting.{is_one_of, occurs_in}
use Rattle.cert_tree.specs.Ground.{variables, unknowns}
use Rattle.search_laws.proofs.Occurring.{Over}
use Rattle.search_laws.proofs.Choices.{or_left, or_right}

-- ---- an unknown that occurs is one of the unknowns
in_put : (x y : ℕ) (ys : List ℕ) → is_one_of ys y ≡ true → is_one_of (put_in x ys) y ≡ true
in_put x y [] h = absurd (false≢true h)
in_put x y (z ∷ zs) h =
    let P : List ℕ → Type 0 = λ gs. is_one_of gs y ≡ true in
    cond_both (nat_lt x z) (x ∷ z ∷ zs) (cond (x == z) (z ∷ zs) (z ∷ put_in x zs)) P (λ _. or_right (x == y) (is_one_of (z ∷ zs) y) h)
    (λ _. cond_both (x == z) (z ∷ zs) (z ∷ put_in x zs) P (λ _. h)
    (λ _. elim (or_cases (z == y) (is_one_of zs y) h) [ inl e ↦ or_left (z == y) (is_one_of (put_in x zs) y) e | inr m ↦ or_right (z == y) (is_one_of (put_in x zs) y) (in_put x y zs m) ]))

put_in_has : (x : ℕ) (ys : List ℕ) → is_one_of (put_in x ys) x ≡ true
put_in_has x [] = or_left (x == x) false (eq-eqb x x refl)
put_in_has x (y ∷ ys) =
    let P : List ℕ → Type 0 = λ gs. is_one_of gs x ≡ true in
    cond_both (nat_lt x y) (x ∷ y ∷ ys) (cond (x == y) (y ∷ ys) (y ∷ put_in x ys)) P (λ _. or_left (x == x) (is_one_of (y ∷ ys) x) (eq-eqb x x refl))
    (λ _. cond_both (x == y) (y ∷ ys) (y ∷ put_in x ys) P (λ e. or_left (y == x) (is_one_of ys x) (eq-eqb y x (sym (eqb-true x y e))))
    (λ _. or_right (y == x) (is_one_of (put_in x ys) x) (put_in_has x ys)))

terms_in : (y : ℕ) (ts : Terms) (xs : List ℕ) → (list_any (λ e. e.0 == y) ts || is_one_of xs y) ≡ true → is_one_of (put_terms_in ts xs) y ≡ true
terms_in y [] xs h = h
terms_in y ((x, k) ∷ ts) xs h = elim (cases_Bool (x == y)) [
  | inl e ↦ subst (λ z. is_one_of (put_in x (put_terms_in ts xs)) z ≡ true) (eqb-true x y e) (put_in_has x (put_terms_in ts xs))
  | inr n ↦ in_put x y (put_terms_in ts xs) (terms_in y ts xs (rw n at h))
]

pub unknown_in : (y : ℕ) (facts : List Fact) → occurs_in y facts ≡ true → is_one_of (unknowns facts) y ≡ true
unknown_in y [] h = absurd (false≢true h)
unknown_in y (f ∷ fs) h = terms_in y (sum_of f).coefs (unknowns fs) (elim (or_cases (occurs y (sum_of f)) (occurs_in y fs) h) [
  | inl here ↦ or_left (occurs y (sum_of f)) (is_one_of (unknowns fs) y) here
  | inr more ↦ or_right (occurs y (sum_of f)) (is_one_of (unknowns fs) y) (unknown_in y fs more)
])

pub filtered_in : (test : ℕ → Bool) (y : ℕ) (xs : List ℕ) → test y ≡ true → is_one_of xs y ≡ true → is_one_of (filter test xs) y ≡ true
filtered_in test y [] t h = h
filtered_in test y (x ∷ xs) t h =
    cond_both (test x) (x ∷ filter test xs) (filter test xs) (λ gs. is_one_of gs y ≡ true)
    (λ _. elim (or_cases (x == y) (is_one_of xs y) h) [ inl e ↦ or_left (x == y) _ e | inr m ↦ or_right (x == y) _ (filtered_in test y xs t m) ])
    (λ n. elim (or_cases (x == y) (is_one_of xs y) h) [ inl e ↦ absurd (both_ways (test x) n (ap test (eqb-true x y e) ∙ t)) | inr m ↦ filtered_in test y xs t m ])

-- a parameter, or one of these
abbrev pub is_param_or : ℕ → List ℕ → ℕ → Bool
is_param_or params xs y = nat_lt y params || is_one_of xs y

pub param_or_variable : (params y : ℕ) (clause : List Fact) → occurs_in y clause ≡ true → is_param_or params (variables params clause) y ≡ true
param_or_variable params y clause o = elim (cases_Bool (nat_lt y params)) [
  | inl below ↦ or_left (nat_lt y params) _ below
  | inr above ↦ or_right (nat_lt y params) _ (filtered_in (λ x. nat_le params x) y (unknowns clause) (le-leb params y (ltb-false y params above)) (unknown_in y clause o))
]

pub all_filtered : (test : ℕ → Bool) (xs : List ℕ) → list_all test (filter test xs) ≡ true
all_filtered test [] = refl
all_filtered test (x ∷ xs) = cond_both (test x) (x ∷ filter test xs) (filter test xs) (λ ys. list_all test ys ≡ true) (λ h. and_from _ _ h (all_filtered test xs)) (λ _. all_filtered test xs)

-- ---- a test that each unknown that occurs passes
module _ (test : ℕ → Bool) where
  pub terms_pass : (ts : Terms) → ((y : ℕ) → list_any (λ e. e.0 == y) ts ≡ true → test y ≡ true) → list_all (λ e. test e.0) ts ≡ true
  terms_pass [] h = refl
  terms_pass ((x, k) ∷ ts) h = and_from _ _ (h x (or_left (x == x) _ (eq-eqb x x refl))) (terms_pass ts (λ y o. h y (or_right (x == y) _ o)))

  pub over_occurring : (fs : List Fact) → ((y : ℕ) → occurs_in y fs ≡ true → test y ≡ true) → Over test fs
  over_occurring [] h = refl
  over_occurring (f ∷ fs) h =
      and_from _ _ (terms_pass (sum_of f).coefs (λ y o. h y (or_left (occurs y (sum_of f)) (occurs_in y fs) o)))
      (over_occurring fs (λ y o. h y (or_right (occurs y (sum_of f)) (occurs_in y fs) o)))

pub over_variables : (params : ℕ) (clause : List Fact) → Over (is_param_or params (variables params clause)) clause
over_variables params clause = over_occurring (is_param_or params (variables params clause)) clause (λ y o. param_or_variable params y clause o)
