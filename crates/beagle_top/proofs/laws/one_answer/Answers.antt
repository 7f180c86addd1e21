use Rattle.beagle_top.proofs.OneAnswer.{one_due}
use Rattle.beagle_top.proofs.laws.one_answer.Goals as goal

pub returns : goal.returns
returns c = one_due c.one_answer.ensures.problem c.one_answer.ensures.fault c.one_answer.ensures.apart c.one_finding.ensures c.one_spelling_with_status.ensures
