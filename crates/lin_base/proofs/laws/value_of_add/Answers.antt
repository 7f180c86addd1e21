use Rattle.lin_base.proofs.Values.{value-add}
use Rattle.lin_base.proofs.laws.value_of_add.Goals as goal

pub returns : goal.returns
returns c = value-add
