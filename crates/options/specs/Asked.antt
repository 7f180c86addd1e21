-- The options of a run, and their ranges.
use Rattle.std.specs.Prelude.{ℕ, ◌≤◌, false}
use Rattle.options.specs.declared.asked.Mode.{Mode}
use Rattle.options.specs.declared.asked.Options.{Options}
use Rattle.options.specs.declared.limits.TheConstants.{DEFAULT_JUDGE_STEPS, DEFAULT_TURNS, DEFAULT_WORKERS, MAX_JUDGE_STEPS, MAX_TURNS, MAX_WORKERS}

-- the options where no words are given, for this job
abbrev pub default_options : Mode → Options
default_options mode = record {
  workers = DEFAULT_WORKERS;
  turns = DEFAULT_TURNS;
  judge_steps = DEFAULT_JUDGE_STEPS;
  ordinary = false;
  mode = mode;
}

-- the number lies between these two
abbrev pub IsBetween : ℕ → ℕ → ℕ → Type 0
IsBetween low high n = (low ≤ n) × (n ≤ high)

-- each number of the options lies in its range
abbrev pub AreInRange : Options → Type 0
AreInRange o = IsBetween 1 MAX_WORKERS o.workers × IsBetween 1 MAX_TURNS o.turns × IsBetween 1 MAX_JUDGE_STEPS o.judge_steps
