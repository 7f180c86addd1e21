use Rattle.bg_view.proofs.PoolMeaning.{view_means}
use Rattle.bg_view.proofs.laws.truth_of_view.Goals as goal

pub returns : goal.returns
returns c = λ clauses p q gives. view_means clauses p q gives
