-- Numbers that are compared, and tests that have one result.
use Rattle.std.proofs.Common.{◌≡◌, ◌⊎◌, ◌<◌, ◌∙◌, ℕ, zero, suc, Bool, true, false, refl, sym, ap, inl, inr, arith}
use Rattle.std.proofs.lemmas.Bool.{false≢true}

one_more : (m n : ℕ) → (m < n) ⊎ ((m ≡ n) ⊎ (n < m)) → (suc m < suc n) ⊎ ((suc m ≡ suc n) ⊎ (suc n < suc m))
one_more m n (inl l) = inl (omega (arith, l))
one_more m n (inr (inl e)) = inr (inl (ap suc e))
one_more m n (inr (inr l)) = inr (inr (omega (arith, l)))

-- of two numbers one is less, or they are equal
pub compared : (m n : ℕ) → (m < n) ⊎ ((m ≡ n) ⊎ (n < m))
compared zero zero = inr (inl refl)
compared zero (suc n) = inl (omega arith)
compared (suc m) zero = inr (inr (omega arith))
compared (suc m) (suc n) = one_more m n (compared m n)

-- a test isn't both
pub not_both : (b : Bool) → b ≡ true → b ≡ false → ⊥
not_both b holds fails = false≢true (sym fails ∙ holds)
