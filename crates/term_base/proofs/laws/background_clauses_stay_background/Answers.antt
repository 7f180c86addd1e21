use Rattle.term_base.proofs.BackgroundLemmas.{background_clause-put, background_clause-only}
use Rattle.term_base.proofs.laws.background_clauses_stay_background.Goals as goal

pub returns : goal.returns
returns c = record { stays = background_clause-put; only = background_clause-only }
