use Rattle.term_base.proofs.BackgroundLemmas.{background_tree-put, background_tree-only}
use Rattle.term_base.proofs.laws.background_terms_stay_background.Goals as goal

pub returns : goal.returns
returns c = record { stays = background_tree-put; only = background_tree-only }
