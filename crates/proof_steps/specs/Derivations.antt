-- Derivations of the empty clause, and the first fault of those that are none.
use Rattle.std.specs.Prelude.{◌≡◌, ◌<◌, ◌⊎◌, ◌-◌, ℕ, Bool, true, false, List, take, length, slice_get}
use Rattle.std.specs.Option.{option_map_or}
use Rattle.term_base.specs.declared.preparation.Prepared.{Prepared}
use Rattle.term_base.specs.Lits.{lits}
use Rattle.proof_steps.specs.declared.steps.Step.{Step}
use Rattle.proof_steps.specs.declared.steps.Replay.{Replay}
use Rattle.proof_steps.specs.declared.steps.Replay.TheVariants.{Verified, Refused}
use Rattle.proof_steps.specs.Standing.{is_empty_clause, step_stands}

-- the step of number k stands on those before it
abbrev pub stands_on_earlier : Prepared → List Step → ℕ → Bool
stands_on_earlier prepared steps k = option_map_or (step_stands prepared (take k steps)) (slice_get steps k) false

-- the clause of the step is empty
abbrev pub is_empty_step : Step → Bool
is_empty_step s = is_empty_clause (lits s.clause)

-- there is a last step, and its clause is empty
abbrev pub ends_empty : List Step → Bool
ends_empty steps = option_map_or is_empty_step (slice_get steps (length steps - 1)) false

-- each step below n stands on those before it
abbrev pub StandBelow : Prepared → List Step → ℕ → Type 0
StandBelow prepared steps n = (k : ℕ) → k < n → stands_on_earlier prepared steps k ≡ true

-- each step stands on earlier ones, and the last clause is empty
pub record Derives (prepared : Prepared) (steps : List Step) : Type 0 where
  pub stand : StandBelow prepared steps (length steps)
  pub empty : ends_empty steps ≡ true

-- the step of number n doesn't stand, or all steps stand and the last clause isn't empty
abbrev pub IsFault : Prepared → List Step → ℕ → Type 0
IsFault prepared steps n =
    ((n < length steps) × (stands_on_earlier prepared steps n ≡ false)) ⊎ ((n ≡ length steps) × (ends_empty steps ≡ false))

-- it is the first one
pub record IsFirstFault (prepared : Prepared) (steps : List Step) (n : ℕ) : Type 0 where
  pub before : StandBelow prepared steps n
  pub here : IsFault prepared steps n

-- Verified says that the steps derive the empty clause, Refused the first fault
abbrev pub IsReplay : Prepared → List Step → Replay → Type 0
IsReplay prepared steps Verified = Derives prepared steps
IsReplay prepared steps (Refused n) = IsFirstFault prepared steps n
