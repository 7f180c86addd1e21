use Rattle.cert_tree.proofs.RowsSound.{stands_impossible}
use Rattle.cert_tree.proofs.WellFormed.{pool_proper}
use Rattle.cert_tree.proofs.laws.standing_is_impossible.Goals as goal

pub returns : goal.returns
returns c = λ pool cert is stands. stands_impossible pool cert (pool_proper pool is) stands
