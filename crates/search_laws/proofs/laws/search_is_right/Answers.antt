use Rattle.search_laws.proofs.Right.{right}
use Rattle.search_laws.proofs.laws.search_is_right.Goals as goal

pub returns : goal.returns
returns c = λ pool is small. right pool is small
