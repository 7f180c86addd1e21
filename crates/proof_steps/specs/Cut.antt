-- Some steps of a list, with new numbers.
use Rattle.std.specs.Prelude.{◌≡◌, ℕ, zero, suc, ◌+◌, Bool, true, false, List, [], ◌∷◌}
use Rattle.proof_steps.specs.declared.steps.Step.{Step}
use Rattle.proof_steps.specs.Standing.{step_defines}
use Rattle.proof_steps.specs.Renumbered.{cited, renumbered}

abbrev pub one_where : Bool → ℕ
one_where true = 1
one_where false = 0

-- how many are kept of so many numbers from n on
abbrev pub kept_from : (ℕ → Bool) → ℕ → ℕ → ℕ
kept_from keep n zero = 0
kept_from keep n (suc k) = one_where (keep n) + kept_from keep (n + 1) k

-- the new number of a step: how many are kept before it
abbrev pub new_number : (ℕ → Bool) → ℕ → ℕ
new_number keep = kept_from keep 0

abbrev pub put_where : Bool → Step → List Step → List Step
put_where true s ss = s ∷ ss
put_where false s ss = ss

-- the steps that are kept, which are numbered from n, with new numbers in them
abbrev pub cut_from : (ℕ → Bool) → (ℕ → ℕ) → ℕ → List Step → List Step
cut_from keep new n [] = []
cut_from keep new n (s ∷ ss) = put_where (keep n) (renumbered new s) (cut_from keep new (n + 1) ss)

abbrev pub cut : (ℕ → Bool) → List Step → List Step
cut keep = cut_from keep (new_number keep) 0

-- all these numbers are kept
abbrev pub AllKept : (ℕ → Bool) → List ℕ → Type 0
AllKept keep [] = Unit {0}
AllKept keep (k ∷ ks) = (keep k ≡ true) × AllKept keep ks

-- with the step of this number those that it names are kept, and it makes no symbol where it isn't kept
pub record KeepsNeeded (keep : ℕ → Bool) (n : ℕ) (s : Step) : Type 0 where
  pub needed : keep n ≡ true → AllKept keep (cited s.rule)
  pub symbols : keep n ≡ false → step_defines s ≡ 0
