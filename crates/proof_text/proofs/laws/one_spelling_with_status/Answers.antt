use Rattle.proof_text.proofs.RuleTexts.{one_text_with_status}
use Rattle.proof_text.proofs.laws.one_spelling_with_status.Goals as goal

pub returns : goal.returns
returns c = one_text_with_status
