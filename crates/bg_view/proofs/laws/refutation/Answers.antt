use Rattle.bg_view.proofs.Consequences.{contradictory, impossible}
use Rattle.bg_view.proofs.laws.refutation.Goals as goal

pub returns : goal.returns
returns c = λ clauses. (contradictory clauses, impossible clauses)
