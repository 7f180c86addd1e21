use Rattle.term_order.proofs.AboveLemmas.{over_pure}
use Rattle.term_order.proofs.laws.foreground_is_above_pure.Goals as goal

pub returns : goal.returns
returns c = λ signature s t h pure. over_pure signature s h t pure
