use Rattle.beagle_top.proofs.AnswerLaws.{past_measure}
use Rattle.beagle_top.proofs.laws.unknown_where_past.Goals as goal

pub returns : goal.returns
returns c = past_measure
