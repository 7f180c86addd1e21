use Rattle.cert_tree.proofs.Least.{least_some}
use Rattle.cert_tree.proofs.WellFormed.{each_proper, each_good, some_hold}
use Rattle.lin_base.specs.Sum.{assigned}
use Rattle.cert_tree.specs.Children.{least_children}
use Rattle.cert_tree.proofs.laws.least_has_every_case.Goals as goal

pub returns : goal.returns
returns c = λ facts p v are hold. let found = least_some v p facts (each_good v facts (each_proper facts are) hold) in (found.0, some_hold (assigned p found.0 v) (least_children p facts) found.1)
