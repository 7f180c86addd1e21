use Rattle.proof_text.proofs.Conditions.{derivation_spelled, text_spelled}
use Rattle.proof_text.proofs.laws.no_other_is_spelled.Goals as goal

pub returns : goal.returns
returns c = record { without_status = derivation_spelled; with_status = text_spelled }
