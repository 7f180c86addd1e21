use Rattle.term_base.proofs.LawLemmas.{nodes-weight}
use Rattle.term_base.proofs.laws.weight_counts_nodes.Goals as goal

pub returns : goal.returns
returns c = nodes-weight
