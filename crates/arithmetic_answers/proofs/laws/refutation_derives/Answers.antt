use Rattle.arithmetic_answers.proofs.Deriving.{refutation_derives}
use Rattle.arithmetic_answers.proofs.laws.refutation_derives.Goals as goal

pub returns : goal.returns
returns c = refutation_derives
