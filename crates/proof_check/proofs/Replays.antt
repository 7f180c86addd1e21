-- The first fault of steps is one alone, and steps that derive falsehood have none.
use Rattle.std.proofs.Common.{◌≡◌, ◌≤◌, ◌<◌, ◌⊎◌, ℕ, List, length, false, subst, inl, inr, arith, sym}
use Rattle.term_base.specs.declared.preparation.Prepared.{Prepared}
use Rattle.proof_steps.specs.declared.steps.Step.{Step}
use Rattle.proof_steps.specs.Derivations.{Derives, IsFault, IsFirstFault, ends_empty, stands_on_earlier}
use Rattle.proof_check.proofs.Comparing.{compared, not_both}

module _ (prepared : Prepared) (steps : List Step) where
  at_most_all : (n : ℕ) → IsFault prepared steps n → n ≤ length steps
  at_most_all n (inl f) = let l = f.0 in omega (arith, l)
  at_most_all n (inr f) = let e = f.0 in omega (arith, e)

  not_before : (m n : ℕ) → IsFault prepared steps m → IsFirstFault prepared steps n → m < n → ⊥
  not_before m n (inl f) g l = not_both (stands_on_earlier prepared steps m) (g.before m l) (f.1)
  not_before m n (inr f) g l =
      let all = at_most_all n g.here in
      let e = f.0 in
      absurd (omega (arith, all, e, l))

  one_of : (m n : ℕ) → IsFirstFault prepared steps m → IsFirstFault prepared steps n → (m < n) ⊎ ((m ≡ n) ⊎ (n < m)) → m ≡ n
  one_of m n f g (inl l) = absurd (not_before m n f.here g l)
  one_of m n f g (inr (inl e)) = e
  one_of m n f g (inr (inr l)) = absurd (not_before n m g.here f l)

  pub one_fault : (m n : ℕ) → IsFirstFault prepared steps m → IsFirstFault prepared steps n → m ≡ n
  one_fault m n f g = one_of m n f g (compared m n)

  fault_or : (n : ℕ) → IsFault prepared steps n → Derives prepared steps → ⊥
  fault_or n (inl f) d = not_both (stands_on_earlier prepared steps n) (d.stand n f.0) (f.1)
  fault_or n (inr f) d = not_both (ends_empty steps) d.empty (f.1)

  pub no_fault : (n : ℕ) → IsFirstFault prepared steps n → Derives prepared steps → ⊥
  no_fault n f d = fault_or n f.here d
