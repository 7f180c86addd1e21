use Rattle.lin_base.proofs.Values.{value-add_number}
use Rattle.lin_base.proofs.laws.value_of_add_number.Goals as goal

pub returns : goal.returns
returns c = value-add_number
