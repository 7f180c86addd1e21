use Rattle.lin_base.proofs.Values.{value-number}
use Rattle.lin_base.proofs.laws.value_of_number.Goals as goal

pub returns : goal.returns
returns c = value-number
