use Rattle.std.proofs.Common.{ℕ, ◌≤◌, ◌<◌, ◌-◌, length}
use Rattle.normal_form.specs.Lookup.{number_at}
use Rattle.normal_form.proofs.lookup.up_to.Given as goal

abbrev pub invariant-loop-low : goal.invariant-loop-low
invariant-loop-low l = record {
  ordered : l.low ≤ l.high;
  within : l.high ≤ l.ascending;
  inside : l.ascending ≤ length l.terms;
  below : (k : ℕ) → k < l.low → number_at k l.terms ≤ l.id;
  above : (k : ℕ) → l.high ≤ k → k < l.ascending → l.id < number_at k l.terms;
}

abbrev pub decreases-loop-low : goal.decreases-loop-low
decreases-loop-low l = l.high - l.low
