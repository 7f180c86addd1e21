use Rattle.search_laws.proofs.Right.{closed_stands}
use Rattle.search_laws.proofs.laws.closed_search_stands.Goals as goal

pub returns : goal.returns
returns c = λ pool t is narrow range found. closed_stands pool t is narrow range found
