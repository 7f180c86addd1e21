-- The sum of two lists of terms whose unknowns ascend, term by term from the front.
use Rattle.std.specs.Prelude.{◌≡◌, ℕ, ◌-◌, ◌<◌, ◌⊎◌, ℤ, pos, ◌+ℤ◌, Bool, true, false, cond, ◌==◌, nat_lt, [], ◌∷◌, ◌++◌, if◌then◌else◌, IsTrue}
use Rattle.std.specs.List.{list_all}
use Rattle.std.proofs.Common.{refl, sym, ◌∙◌, ap, subst, inl, inr, arith, length, get_or, take, drop}
use Rattle.std.proofs.Math.Seq.{take-length}
use Rattle.std.proofs.lemmas.List.{append-nil}
use Rattle.lin_base.specs.Whole.{is_zero}
use Rattle.std.proofs.lemmas.Bool.{cond_both, and_parts, and_from}
use Rattle.std.proofs.lemmas.Bool.Decides.{nat_tests}
use Rattle.lin_base.specs.Sum.{Terms, with_term, add_term, add_terms}
use Rattle.lin_base.specs.Fact.{is_ascending}
use Rattle.lin_base.specs.Steps.{adds, add_term_steps, add_terms_steps}

-- x is below each unknown of the terms
abbrev pub is_below : ℕ → Terms → Bool
is_below x ts = list_all (λ e. nat_lt x e.0) ts

pub lower : (x y : ℕ) (ts : Terms) → nat_lt x y ≡ true → is_below y ts ≡ true → is_below x ts ≡ true
lower x y [] h below = refl
lower x y (e ∷ ts) h below =
    let both = and_parts (nat_lt y e.0) (is_below y ts) below in
    let first : nat_lt x e.0 ≡ true = grind (arith, nat_tests) in
    and_from (nat_lt x e.0) (is_below x ts) first (lower x y ts h both.1)

-- the unknowns after the first are above it, and ascend
pub ascending_parts : (e : ℕ × ℤ) (ts : Terms) → is_ascending (e ∷ ts) ≡ true → (is_below e.0 ts ≡ true) × (is_ascending ts ≡ true)
ascending_parts e [] h = (refl, refl)
ascending_parts e (f ∷ ts) h =
    let both = and_parts (nat_lt e.0 f.0) (is_ascending (f ∷ ts)) h in
    let more = ascending_parts f ts both.1 in
    (and_from (nat_lt e.0 f.0) (is_below e.0 ts) both.0 (lower e.0 f.0 ts both.0 more.0), both.1)

-- ---- a term below all others stands first
pub add_term-below : (x : ℕ) (k : ℤ) (us : Terms) → is_below x us ≡ true → add_term x k us ≡ (x, k) ∷ us
add_term-below x k [] h = refl
add_term-below x k ((y, l) ∷ us) h =
    let both = and_parts (nat_lt x y) (is_below x us) h in
    ap (λ b. cond b ((x, k) ∷ (y, l) ∷ us) (cond (x == y) (with_term x (k +ℤ l) us) ((y, l) ∷ add_term x k us))) both.0

add_term-above : (x y : ℕ) (k l : ℤ) (us : Terms) → nat_lt y x ≡ true → add_term x k ((y, l) ∷ us) ≡ (y, l) ∷ add_term x k us
add_term-above x y k l us h =
    let a : nat_lt x y ≡ false = grind (arith, nat_tests) in
    let b : (x == y) ≡ false = grind (arith, nat_tests) in
    ap (λ c. cond c ((x, k) ∷ (y, l) ∷ us) (cond (x == y) (with_term x (k +ℤ l) us) ((y, l) ∷ add_term x k us))) a
    ∙ ap (λ c. cond c (with_term x (k +ℤ l) us) ((y, l) ∷ add_term x k us)) b

pub add_term-same : (x : ℕ) (k l : ℤ) (us : Terms) → add_term x k ((x, l) ∷ us) ≡ with_term x (k +ℤ l) us
add_term-same x k l us =
    let a : nat_lt x x ≡ false = grind (arith, nat_tests) in
    let b : (x == x) ≡ true = grind (arith, nat_tests) in
    ap (λ c. cond c ((x, k) ∷ (x, l) ∷ us) (cond (x == x) (with_term x (k +ℤ l) us) ((x, l) ∷ add_term x k us))) a
    ∙ ap (λ c. cond c (with_term x (k +ℤ l) us) ((x, l) ∷ add_term x k us)) b

pub add_terms-front : (ts : Terms) (y : ℕ) (l : ℤ) (us : Terms) → is_below y ts ≡ true → add_terms ts ((y, l) ∷ us) ≡ (y, l) ∷ add_terms ts us
add_terms-front [] y l us h = refl
add_terms-front ((x, k) ∷ ts) y l us h =
    let both = and_parts (nat_lt y x) (is_below y ts) h in
    ap (add_term x k) (add_terms-front ts y l us both.1) ∙ add_term-above x y k l (add_terms ts us) both.0

pub add_term-keeps_below : (x y : ℕ) (k : ℤ) (us : Terms) → nat_lt x y ≡ true → is_below x us ≡ true → is_below x (add_term y k us) ≡ true
add_term-keeps_below x y k [] h below = and_from _ _ h refl
add_term-keeps_below x y k ((z, l) ∷ us) h below =
    let both = and_parts (nat_lt x z) (is_below x us) below in
    let P : Terms → Type 0 = λ ts. is_below x ts ≡ true in
    cond_both (nat_lt y z) ((y, k) ∷ (z, l) ∷ us) (if y == z then with_term y (k +ℤ l) us else (z, l) ∷ add_term y k us) P
    (λ _. and_from _ _ h below)
    (λ _. cond_both (y == z) (with_term y (k +ℤ l) us) ((z, l) ∷ add_term y k us) P
    (λ _. cond_both (is_zero (k +ℤ l)) us ((y, k +ℤ l) ∷ us) P (λ _. both.1) (λ _. and_from _ _ h both.1))
    (λ _. and_from _ _ both.0 (add_term-keeps_below x y k us h both.1)))

pub add_terms-below : (x : ℕ) (ts us : Terms) → is_below x ts ≡ true → is_below x us ≡ true → is_below x (add_terms ts us) ≡ true
add_terms-below x [] us h below = below
add_terms-below x ((y, k) ∷ ts) us h below =
    let both = and_parts (nat_lt x y) (is_below x ts) h in
    add_term-keeps_below x y k (add_terms ts us) both.0 (add_terms-below x ts us both.1 below)

-- ---- the steps
steps-other : (x y : ℕ) (k l : ℤ) (us : Terms) → (y == x) ≡ false → add_term_steps x k ((y, l) ∷ us) ≡ add_term_steps x k us
steps-other x y k l us h = ap (λ c. cond c (adds k l ∷ []) (add_term_steps x k us)) h

pub add_term_steps-below : (x : ℕ) (k : ℤ) (us : Terms) → is_below x us ≡ true → add_term_steps x k us ≡ []
add_term_steps-below x k [] h = refl
add_term_steps-below x k ((y, l) ∷ us) h =
    let both = and_parts (nat_lt x y) (is_below x us) h in
    let a : (y == x) ≡ false = grind (arith, nat_tests) in
    steps-other x y k l us a ∙ add_term_steps-below x k us both.1

pub add_term_steps-same : (x : ℕ) (k l : ℤ) (us : Terms) → add_term_steps x k ((x, l) ∷ us) ≡ adds k l ∷ []
add_term_steps-same x k l us =
    let a : (x == x) ≡ true = grind (arith, nat_tests) in
    ap (λ c. cond c (adds k l ∷ []) (add_term_steps x k us)) a

pub add_terms_steps-front : (ts : Terms) (y : ℕ) (l : ℤ) (us : Terms) → is_below y ts ≡ true → add_terms_steps ts ((y, l) ∷ us) ≡ add_terms_steps ts us
add_terms_steps-front [] y l us h = refl
add_terms_steps-front ((x, k) ∷ ts) y l us h =
    let both = and_parts (nat_lt y x) (is_below y ts) h in
    let a : (y == x) ≡ false = grind (arith, nat_tests) in
    ap (λ ss. ss ++ add_terms_steps ts ((y, l) ∷ us)) (steps-other x y k l us a) ∙ ap (λ ss. add_term_steps x k us ++ ss) (add_terms_steps-front ts y l us both.1)

-- ---- one step of a merge
module _ (a b : ℕ × ℤ) (ts us : Terms) (left : IsTrue (is_ascending (a ∷ ts))) (right : IsTrue (is_ascending (b ∷ us))) where
  pub add_terms-lower : a.0 < b.0 → add_terms (a ∷ ts) (b ∷ us) ≡ a ∷ add_terms ts (b ∷ us)
  add_terms-lower h =
      let above : nat_lt a.0 b.0 ≡ true = grind (arith, nat_tests) in
      let below_left = (ascending_parts a ts left).0 in
      let below_right = lower a.0 b.0 us above (ascending_parts b us right).0 in
      add_term-below a.0 a.1 (add_terms ts (b ∷ us)) (add_terms-below a.0 ts (b ∷ us) below_left (and_from _ _ above below_right))

  pub add_terms_steps-lower : a.0 < b.0 → add_terms_steps (a ∷ ts) (b ∷ us) ≡ add_terms_steps ts (b ∷ us)
  add_terms_steps-lower h =
      let above : nat_lt a.0 b.0 ≡ true = grind (arith, nat_tests) in
      let below = lower a.0 b.0 us above (ascending_parts b us right).0 in
      ap (λ ss. ss ++ add_terms_steps ts (b ∷ us)) (add_term_steps-below a.0 a.1 (b ∷ us) (and_from _ _ above below))

  pub add_terms-higher : b.0 < a.0 → add_terms (a ∷ ts) (b ∷ us) ≡ b ∷ add_terms (a ∷ ts) us
  add_terms-higher h =
      let above : nat_lt b.0 a.0 ≡ true = grind (arith, nat_tests) in
      let below = lower b.0 a.0 ts above (ascending_parts a ts left).0 in
      add_terms-front (a ∷ ts) b.0 b.1 us (and_from _ _ above below)

  pub add_terms_steps-higher : b.0 < a.0 → add_terms_steps (a ∷ ts) (b ∷ us) ≡ add_terms_steps (a ∷ ts) us
  add_terms_steps-higher h =
      let above : nat_lt b.0 a.0 ≡ true = grind (arith, nat_tests) in
      let below = lower b.0 a.0 ts above (ascending_parts a ts left).0 in
      add_terms_steps-front (a ∷ ts) b.0 b.1 us (and_from _ _ above below)

  pub add_terms-same : b.0 ≡ a.0 → add_terms (a ∷ ts) (b ∷ us) ≡ with_term a.0 (a.1 +ℤ b.1) (add_terms ts us)
  add_terms-same e =
      let below : is_below b.0 ts ≡ true = ap (λ x. is_below x ts) e ∙ (ascending_parts a ts left).0 in
      ap (add_term a.0 a.1) (add_terms-front ts b.0 b.1 us below)
      ∙ ap (λ x. add_term a.0 a.1 ((x, b.1) ∷ add_terms ts us)) e
      ∙ add_term-same a.0 a.1 b.1 (add_terms ts us)

  pub add_terms_steps-same : b.0 ≡ a.0 → add_terms_steps (a ∷ ts) (b ∷ us) ≡ adds a.1 b.1 ∷ add_terms_steps ts us
  add_terms_steps-same e =
      let below : is_below b.0 ts ≡ true = ap (λ x. is_below x ts) e ∙ (ascending_parts a ts left).0 in
      ap (λ x. add_term_steps a.0 a.1 ((x, b.1) ∷ us) ++ add_terms_steps ts (b ∷ us)) e
      ∙ ap (λ ss. ss ++ add_terms_steps ts (b ∷ us)) (add_term_steps-same a.0 a.1 b.1 us)
      ∙ ap (λ ss. adds a.1 b.1 ∷ ss) (add_terms_steps-front ts b.0 b.1 us below)

-- ---- the same for lists that are known to begin so
module _ (a b : ℕ × ℤ) (ts' us' ts us : Terms) (e : ts ≡ a ∷ ts') (f : us ≡ b ∷ us') (left : IsTrue (is_ascending ts)) (right : IsTrue (is_ascending us)) where
  left_list : IsTrue (is_ascending (a ∷ ts'))
  left_list = let P : Terms → Type 0 = λ t. IsTrue (is_ascending t) in subst P e left

  right_list : IsTrue (is_ascending (b ∷ us'))
  right_list = let P : Terms → Type 0 = λ t. IsTrue (is_ascending t) in subst P f right

  pub left_rest : IsTrue (is_ascending ts')
  left_rest = (ascending_parts a ts' left_list).1

  pub right_rest : IsTrue (is_ascending us')
  right_rest = (ascending_parts b us' right_list).1

  pub merge-lower : a.0 < b.0 → (add_terms ts us ≡ a ∷ add_terms ts' us) × (add_terms_steps ts us ≡ add_terms_steps ts' us)
  merge-lower h = (
    ap (λ t. add_terms t us) e ∙ ap (λ u. add_terms (a ∷ ts') u) f ∙ add_terms-lower a b ts' us' left_list right_list h ∙ ap (λ u. a ∷ add_terms ts' u) (sym f),
    ap (λ t. add_terms_steps t us) e ∙ ap (λ u. add_terms_steps (a ∷ ts') u) f ∙ add_terms_steps-lower a b ts' us' left_list right_list h ∙ ap (λ u. add_terms_steps ts' u) (sym f),
  )

  pub merge-higher : b.0 < a.0 → (add_terms ts us ≡ b ∷ add_terms ts us') × (add_terms_steps ts us ≡ add_terms_steps ts us')
  merge-higher h = (
    ap (λ t. add_terms t us) e ∙ ap (λ u. add_terms (a ∷ ts') u) f ∙ add_terms-higher a b ts' us' left_list right_list h ∙ ap (λ t. b ∷ add_terms t us') (sym e),
    ap (λ t. add_terms_steps t us) e ∙ ap (λ u. add_terms_steps (a ∷ ts') u) f ∙ add_terms_steps-higher a b ts' us' left_list right_list h ∙ ap (λ t. add_terms_steps t us') (sym e),
  )

  pub merge-same : b.0 ≡ a.0 → (add_terms ts us ≡ with_term a.0 (a.1 +ℤ b.1) (add_terms ts' us')) × (add_terms_steps ts us ≡ adds a.1 b.1 ∷ add_terms_steps ts' us')
  merge-same h = (
    ap (λ t. add_terms t us) e ∙ ap (λ u. add_terms (a ∷ ts') u) f ∙ add_terms-same a b ts' us' left_list right_list h,
    ap (λ t. add_terms_steps t us) e ∙ ap (λ u. add_terms_steps (a ∷ ts') u) f ∙ add_terms_steps-same a b ts' us' left_list right_list h,
  )

-- a list that isn't empty begins with its first term
pub first_and_rest : (ts : Terms) → 0 < length ts → ts ≡ get_or ts 0 (0, pos 0) ∷ take (length ts - 1) (drop 1 ts)
first_and_rest [] h = absurd (omega (arith, h))
first_and_rest (a ∷ ts) h =
    let e : length (a ∷ ts) - 1 ≡ length ts = omega arith in
    ap (λ us. a ∷ us) (sym (take-length ts) ∙ ap (λ n. take n ts) (sym e))

-- ---- where one list is at its end
pub add_terms-nil : (ts : Terms) → is_ascending ts ≡ true → add_terms ts [] ≡ ts
add_terms-nil [] h = refl
add_terms-nil (a ∷ ts) h =
    let parts = ascending_parts a ts h in
    ap (add_term a.0 a.1) (add_terms-nil ts parts.1) ∙ add_term-below a.0 a.1 ts parts.0

add_terms_steps-nil : (ts : Terms) → add_terms_steps ts [] ≡ []
add_terms_steps-nil [] = refl
add_terms_steps-nil ((x, k) ∷ ts) = add_terms_steps-nil ts

pub merge-end : (ts us : Terms) → IsTrue (is_ascending ts) → (length ts < 1) ⊎ (length us < 1) → (add_terms ts us ≡ ts ++ us) × (add_terms_steps ts us ≡ [])
merge-end [] us h k = (refl, refl)
merge-end (a ∷ ts) [] h k = (add_terms-nil (a ∷ ts) h ∙ sym (append-nil (a ∷ ts)), add_terms_steps-nil (a ∷ ts))
merge-end (a ∷ ts) (b ∷ us) h (inl k) = absurd (omega (arith, k))
merge-end (a ∷ ts) (b ∷ us) h (inr k) = absurd (omega (arith, k))
