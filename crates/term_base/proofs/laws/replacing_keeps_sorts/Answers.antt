use Rattle.term_base.proofs.LawLemmas.{well_sorted-replaced}
use Rattle.term_base.proofs.laws.replacing_keeps_sorts.Goals as goal

pub returns : goal.returns
returns c = well_sorted-replaced
