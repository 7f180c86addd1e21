use Rattle.std.proofs.Common.{ℕ, ◌≢◌, ◌≤◌, ◌<◌, length}
use Rattle.normal_form.specs.Lookup.{number_at}
use Rattle.normal_form.proofs.lookup.place_behind.Given as goal

abbrev pub invariant-loop-behind : goal.invariant-loop-behind
invariant-loop-behind l = record {
  within : l.behind ≤ length l.terms;
  least : l.ascending ≤ l.behind;
  above : (k : ℕ) → l.behind ≤ k → k < length l.terms → number_at k l.terms ≢ l.id;
}

abbrev pub decreases-loop-behind : goal.decreases-loop-behind
decreases-loop-behind l = l.behind
