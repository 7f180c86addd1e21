use Rattle.std.proofs.Common.{◌≡◌, ◌++◌, drop}
use Rattle.std.specs.Prelude.{option_map}
use Rattle.proof_steps.specs.Closing.{at_steps}
use Rattle.proof_steps.proofs.premises.premises.Given as goal

abbrev pub invariant-loop-number : goal.invariant-loop-number
invariant-loop-number l = option_map (λ cs. l.all ++ cs) (at_steps l.before (drop l.number-index l.numbers)) ≡ at_steps l.before l.numbers
