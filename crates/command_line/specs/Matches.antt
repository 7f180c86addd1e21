-- What the matches of the command's words are known to hold.
use Rattle.std.specs.Prelude.{◌≡◌, ℕ, Bool, true, List, codes}
use Rattle.std.specs.Option.{option_map_or}
use Rattle.clap.specs.ValueTests.{is_unsigned_in}
use Rattle.clap.specs.Walk.{Row, Text, one_of}
use Rattle.options.specs.declared.limits.TheConstants.{LAST_MADE, MAX_JUDGE_STEPS, MAX_TURNS, MAX_WORKERS}

-- an option that is there spells a number from low to high
abbrev pub has_number : ℕ → ℕ → Text → List Row → Bool
has_number low high name rows = option_map_or (is_unsigned_in low high) (one_of name rows) true

-- the four options with a number are read as such
pub record AreRead (rows : List Row) : Type 0 where
  pub workers : has_number 1 MAX_WORKERS (codes "workers") rows ≡ true
  pub turns : has_number 1 MAX_TURNS (codes "turns") rows ≡ true
  pub judge_steps : has_number 1 MAX_JUDGE_STEPS (codes "judge-steps") rows ≡ true
  pub make : has_number 0 LAST_MADE (codes "make") rows ≡ true
