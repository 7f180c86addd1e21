use Rattle.proof_check.proofs.OneFinding.{one_of}
use Rattle.proof_check.proofs.laws.one_finding.Goals as goal

pub returns : goal.returns
returns c =
    one_of c.one_status_and_derivation.ensures c.one_answer.ensures.problem c.one_answer.ensures.fault c.one_answer.ensures.apart
