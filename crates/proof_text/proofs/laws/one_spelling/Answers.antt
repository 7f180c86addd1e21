use Rattle.proof_text.proofs.RuleTexts.{one_text}
use Rattle.proof_text.proofs.laws.one_spelling.Goals as goal

pub returns : goal.returns
returns c = one_text
