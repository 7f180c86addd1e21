use Rattle.beagle_top.proofs.AnswerLaws.{contradictory}
use Rattle.beagle_top.proofs.laws.refuted_is_contradictory.Goals as goal

pub returns : goal.returns
returns c = contradictory
