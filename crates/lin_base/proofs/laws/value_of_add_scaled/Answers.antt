use Rattle.lin_base.proofs.Values.{value-add_scaled}
use Rattle.lin_base.proofs.laws.value_of_add_scaled.Goals as goal

pub returns : goal.returns
returns c = value-add_scaled
