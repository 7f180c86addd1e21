use Rattle.term_base.proofs.LawLemmas.{tree_at-replaced}
use Rattle.term_base.proofs.laws.replaced_is_there.Goals as goal

pub returns : goal.returns
returns c = tree_at-replaced
