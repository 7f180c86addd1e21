use Rattle.std.proofs.Common.{suc}
use Rattle.std.specs.Prelude.{codes}
use Rattle.text_pieces.proofs.Putting.{Putting}
use Rattle.proof_text.specs.Derivations.{StepLine}
use Rattle.proof_text.proofs.step_printing.push_steps.Given as goal

abbrev pub invariant-loop-n : goal.invariant-loop-n
invariant-loop-n l = Putting StepLine (λ n step. suc n) (codes "end\n") 0 l.steps l.initial.text.items l.n l.n l.text.items
