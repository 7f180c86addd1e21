use Rattle.beagle_top.proofs.AnswerLaws.{true_at_values}
use Rattle.beagle_top.proofs.laws.saturated_is_true.Goals as goal

pub returns : goal.returns
returns c = true_at_values
