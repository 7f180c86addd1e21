use Rattle.proof_check.proofs.Behind.{parts_behind}
use Rattle.proof_check.proofs.laws.answer_behind.Goals as goal

pub returns : goal.returns
returns c = parts_behind
