use Rattle.lin_base.proofs.Values.{value-above}
use Rattle.lin_base.proofs.laws.value_of_above.Goals as goal

pub returns : goal.returns
returns c = value-above
