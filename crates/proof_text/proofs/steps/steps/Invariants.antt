use Rattle.std.proofs.Common.{length}
use Rattle.proof_text.proofs.StepFronts.{On}
use Rattle.proof_text.proofs.steps.steps.Given as goal

abbrev pub invariant-loop-alloc : goal.invariant-loop-alloc
invariant-loop-alloc l = On l.fn.text l.rest (length l.steps) l.steps

abbrev pub decreases-loop-alloc : goal.decreases-loop-alloc
decreases-loop-alloc l = length l.rest
