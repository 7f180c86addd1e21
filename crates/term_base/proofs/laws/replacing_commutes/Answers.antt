use Rattle.term_base.proofs.LawLemmas.{replaced-put}
use Rattle.term_base.proofs.laws.replacing_commutes.Goals as goal

pub returns : goal.returns
returns c = replaced-put
