use Rattle.cert_tree.proofs.HoldsSound.{holds_true}
use Rattle.cert_tree.proofs.WellFormed.{pool_proper}
use Rattle.cert_tree.proofs.laws.checked_values_are_true.Goals as goal

pub returns : goal.returns
returns c = λ pool values is yes. holds_true pool values (pool_proper pool is) yes
