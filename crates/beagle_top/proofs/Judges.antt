-- The first of several judges.
use Rattle.std.proofs.Common.{◌≡◌, ◌<◌, ◌∙◌, ℕ, List, [], ◌∷◌, length, map, ap, subst, inl, inr, arith}
use Rattle.std.specs.Prelude.{slice_set, slice_index_or}
use Rattle.beagle_top.specs.Asking.{MayAsk, MayAskFirst, first_of}

module _ {A : Type 0} (f : A → List ℕ) where
  -- what is true of the numbers of the one at the front, before and after, is true of those of the first
  pub of_first : (Q : List ℕ → List ℕ → Type 0) (xs : List A) (x y : A) → 0 < length xs → x ≡ slice_index_or xs 0 x → Q (f x) (f y)
      → Q (first_of (map f xs)) (first_of (map f (slice_set xs 0 y)))
  of_first Q [] x y some at q = absurd (omega (arith, some))
  of_first Q (z ∷ xs) x y some at q = subst (λ (w : A). Q (f w) (f y)) at q

  asks_front : (z y : A) (xs : List A) → MayAsk (f z) (f y) → MayAskFirst (map f (z ∷ xs)) (map f (y ∷ xs))
  asks_front z y xs (inl same) = inl (ap (λ (n : List ℕ). n ∷ map f xs) same)
  asks_front z y xs (inr more) = inr (ap (λ (n : List ℕ). n ∷ map f xs) more)

  -- what was asked of the one at the front was asked of the first alone
  pub asks_first : (xs : List A) (x y : A) → 0 < length xs → x ≡ slice_index_or xs 0 x → MayAsk (f x) (f y)
      → MayAskFirst (map f xs) (map f (slice_set xs 0 y))
  asks_first [] x y some at h = absurd (omega (arith, some))
  asks_first (z ∷ xs) x y some at h = asks_front z y xs (subst (λ (w : A). MayAsk (f w) (f y)) at h)

  -- where the one at the front was asked nothing, nothing was asked
  pub asks_none : (xs : List A) (x y : A) → 0 < length xs → x ≡ slice_index_or xs 0 x → f y ≡ f x → map f (slice_set xs 0 y) ≡ map f xs
  asks_none [] x y some at h = absurd (omega (arith, some))
  asks_none (z ∷ xs) x y some at h = ap (λ (n : List ℕ). n ∷ map f xs) (h ∙ ap f at)
