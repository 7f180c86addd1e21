use Rattle.std.proofs.Common.{◌≡◌, ◌≤◌, take}
use Rattle.proof_steps.specs.Standing.{defines}
use Rattle.proof_steps.proofs.standing.defines.Given as goal

abbrev pub invariant-loop-step : goal.invariant-loop-step
invariant-loop-step l = record {
  reached : l.count ≡ defines (take l.step-index l.steps);
  bound : l.count ≤ l.step-index;
}
