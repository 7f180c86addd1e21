use Rattle.proof_text.specs.Derivations.{Spells}
use Rattle.proof_text.proofs.Parsing.{one_value}
use Rattle.proof_text.proofs.StepFronts.{sure-proof}
use Rattle.proof_text.proofs.laws.one_status_and_derivation.Goals as goal

pub returns : goal.returns
returns c = one_value Spells sure-proof.one
