use Rattle.std.proofs.Common.{◌≡◌, length}
use Rattle.beagle.proofs.main.Given as goal

abbrev pub invariant-loop : goal.invariant-loop
invariant-loop l = length l.judges.items ≡ l.counter
