use Rattle.proof_steps.proofs.Abstractions.{as_step}
use Rattle.proof_steps.proofs.AbstractionsBack.{from_step}
use Rattle.proof_steps.proofs.laws.abstractions_are_steps.Goals as goal

pub returns : goal.returns
returns c = λ signature c d. (from_step signature c d, as_step signature c d)
