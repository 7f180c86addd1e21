use Rattle.beagle_top.proofs.AnswerLaws.{decidable}
use Rattle.beagle_top.proofs.laws.decidable_is_decided.Goals as goal

pub returns : goal.returns
returns c = decidable c.one_answer.ensures.problem c.one_answer.ensures.apart
