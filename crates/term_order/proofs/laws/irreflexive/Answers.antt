use Rattle.term_order.proofs.AboveLemmas.{irreflexive}
use Rattle.term_order.proofs.laws.irreflexive.Goals as goal

pub returns : goal.returns
returns c = irreflexive
