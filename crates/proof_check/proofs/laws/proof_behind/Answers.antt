use Rattle.proof_check.proofs.Behind.{proved_behind}
use Rattle.proof_check.proofs.laws.proof_behind.Goals as goal

pub returns : goal.returns
returns c = proved_behind
