use Rattle.term_order.proofs.LiteralLemmas.{maximal_before}
use Rattle.term_order.proofs.laws.maximal_before.Goals as goal

pub returns : goal.returns
returns c = maximal_before
