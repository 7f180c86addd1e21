use Rattle.term_base.proofs.LawLemmas.{background-sides, background-put}
use Rattle.term_base.proofs.laws.background_stays_background.Goals as goal

pub returns : goal.returns
returns c = record { pure = background-sides; stays = background-put }
