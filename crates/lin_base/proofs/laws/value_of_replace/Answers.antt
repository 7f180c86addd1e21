use Rattle.lin_base.proofs.ReplacedValues.{replace-absent, value-replace, value-replace_same}
use Rattle.lin_base.proofs.laws.value_of_replace.Goals as goal

pub returns-clause-absent : goal.returns-clause-absent
returns-clause-absent c = replace-absent

pub returns-clause-value : goal.returns-clause-value
returns-clause-value c = λ v x a t f. value-replace x a t v f

pub returns-clause-multiple : goal.returns-clause-multiple
returns-clause-multiple c = λ v x a t f. value-replace_same x a t v f
