use Rattle.term_base.proofs.WeightLemmas.{literal_nodes-weight}
use Rattle.term_base.proofs.laws.literal_weight_counts_nodes.Goals as goal

pub returns : goal.returns
returns c = literal_nodes-weight
