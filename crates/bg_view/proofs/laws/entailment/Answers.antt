use Rattle.bg_view.proofs.Consequences.{entailed, impossible_together}
use Rattle.bg_view.proofs.laws.entailment.Goals as goal

pub returns : goal.returns
returns c = λ clauses target. (entailed clauses target, impossible_together clauses target)
