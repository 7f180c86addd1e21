use Rattle.proof_text.specs.Derivations.{SpellsDerivation}
use Rattle.proof_text.proofs.Parsing.{one_value}
use Rattle.proof_text.proofs.StepFronts.{sure-derivation}
use Rattle.proof_text.proofs.laws.one_derivation.Goals as goal

pub returns : goal.returns
returns c = one_value SpellsDerivation sure-derivation.one
