use Rattle.proof_check.proofs.Verifying.{without_answer}
use Rattle.proof_check.proofs.laws.bad_without_answer.Goals as goal

pub returns : goal.returns
returns c = without_answer c.one_answer.ensures.problem c.one_answer.ensures.apart
