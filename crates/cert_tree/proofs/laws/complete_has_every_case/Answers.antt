use Rattle.cert_tree.proofs.Shift.{complete_shift}
use Rattle.cert_tree.proofs.WellFormed.{each_proper}
use Rattle.cert_tree.proofs.laws.complete_has_every_case.Goals as goal

pub returns : goal.returns
returns c = λ clause x v facts. complete_shift clause x v (each_proper clause facts)
