use Rattle.bg_view.proofs.PoolMeaning.{entail_view_means}
use Rattle.bg_view.proofs.laws.truth_of_entail_view.Goals as goal

pub returns : goal.returns
returns c = λ clauses target p w q gives. entail_view_means clauses target p w q gives
