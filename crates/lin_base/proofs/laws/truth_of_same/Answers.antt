use Rattle.lin_base.proofs.Truth.{same_holds}
use Rattle.lin_base.proofs.laws.truth_of_same.Goals as goal

pub returns : goal.returns
returns c = same_holds
