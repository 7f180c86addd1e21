use Rattle.lin_base.proofs.Values.{value-split}
use Rattle.lin_base.proofs.laws.value_of_without.Goals as goal

pub returns : goal.returns
returns c = value-split
