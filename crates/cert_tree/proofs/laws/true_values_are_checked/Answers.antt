use Rattle.cert_tree.proofs.HoldsSound.{true_holds}
use Rattle.cert_tree.proofs.WellFormed.{pool_proper}
use Rattle.cert_tree.proofs.Narrow.{each_narrow}
use Rattle.cert_tree.specs.Holds.{check_steps}
use Rattle.cert_tree.proofs.laws.true_values_are_checked.Goals as goal

pub returns : goal.returns
returns c = λ pool values is count narrow true_. true_holds pool values (pool_proper pool is) count (each_narrow (check_steps pool.params values) pool.clauses narrow) true_
