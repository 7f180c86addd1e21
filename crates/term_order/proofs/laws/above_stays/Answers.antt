use Rattle.term_order.proofs.AboveLemmas.{stays}
use Rattle.term_order.proofs.laws.above_stays.Goals as goal

pub returns : goal.returns
returns c = stays
