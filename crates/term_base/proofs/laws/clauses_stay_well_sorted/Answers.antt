use Rattle.term_base.proofs.LawLemmas.{well_sorted-put}
use Rattle.term_base.proofs.laws.clauses_stay_well_sorted.Goals as goal

pub returns : goal.returns
returns c = well_sorted-put
