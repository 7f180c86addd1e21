use Rattle.lin_base.proofs.Values.{value-scale}
use Rattle.lin_base.proofs.laws.value_of_scale.Goals as goal

pub returns : goal.returns
returns c = value-scale
