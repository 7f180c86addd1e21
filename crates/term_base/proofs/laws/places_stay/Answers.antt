use Rattle.term_base.proofs.LawLemmas.{tree_at-put}
use Rattle.term_base.proofs.laws.places_stay.Goals as goal

pub returns : goal.returns
returns c = tree_at-put
