use Rattle.lin_base.proofs.Values.{value-assigned}
use Rattle.lin_base.proofs.laws.value_where_assigned.Goals as goal

pub returns : goal.returns
returns c = value-assigned
