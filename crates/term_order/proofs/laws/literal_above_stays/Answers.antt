use Rattle.term_order.proofs.MultisetLemmas.{literal_stays}
use Rattle.term_order.proofs.laws.literal_above_stays.Goals as goal

pub returns : goal.returns
returns c = literal_stays
