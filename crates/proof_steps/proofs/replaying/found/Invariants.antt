use Rattle.std.proofs.Common.{◌≡◌, ◌≤◌, ◌+◌, take, length}
use Rattle.proof_steps.specs.Standing.{next_symbol}
use Rattle.proof_steps.specs.Derivations.{StandBelow}
use Rattle.proof_steps.proofs.replaying.found.Given as goal

abbrev pub invariant-loop-i : goal.invariant-loop-i
invariant-loop-i l = record {
  next : l.next ≡ next_symbol l.prepared (take l.i l.steps);
  bound : l.next ≤ length l.prepared.symbols + l.i;
  stand : StandBelow l.prepared l.steps l.i;
}
