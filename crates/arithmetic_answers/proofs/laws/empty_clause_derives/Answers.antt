use Rattle.arithmetic_answers.proofs.Deriving.{empty_clause_derives}
use Rattle.arithmetic_answers.proofs.laws.empty_clause_derives.Goals as goal

pub returns : goal.returns
returns c = empty_clause_derives
