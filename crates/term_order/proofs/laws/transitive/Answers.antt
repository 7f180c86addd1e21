use Rattle.term_order.proofs.AboveLemmas.{transitive}
use Rattle.term_order.proofs.laws.transitive.Goals as goal

pub returns : goal.returns
returns c = transitive
