use Rattle.lin_base.proofs.Values.{value-negated}
use Rattle.lin_base.proofs.laws.value_of_negate.Goals as goal

pub returns : goal.returns
returns c = value-negated
