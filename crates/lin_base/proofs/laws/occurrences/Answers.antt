use Rattle.lin_base.proofs.Occurring.{occurs-add, occurs-scale, occurs-negated, occurs-add_number, occurs-above, occurs-without, coef-occurring}
use Rattle.lin_base.proofs.laws.occurrences.Goals as goal

pub returns-clause-sum : goal.returns-clause-sum
returns-clause-sum c = occurs-add

pub returns-clause-multiple : goal.returns-clause-multiple
returns-clause-multiple c = occurs-scale

pub returns-clause-negated : goal.returns-clause-negated
returns-clause-negated c = occurs-negated

pub returns-clause-number_added : goal.returns-clause-number_added
returns-clause-number_added c = occurs-add_number

pub returns-clause-above : goal.returns-clause-above
returns-clause-above c = occurs-above

pub returns-clause-rest : goal.returns-clause-rest
returns-clause-rest c = occurs-without

pub returns-clause-coefficient : goal.returns-clause-coefficient
returns-clause-coefficient c = coef-occurring
