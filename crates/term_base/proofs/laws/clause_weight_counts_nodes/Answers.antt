use Rattle.term_base.proofs.WeightLemmas.{clause_nodes-weight}
use Rattle.term_base.proofs.laws.clause_weight_counts_nodes.Goals as goal

pub returns : goal.returns
returns c = clause_nodes-weight
