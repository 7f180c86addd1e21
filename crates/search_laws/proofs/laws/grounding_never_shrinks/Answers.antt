use Rattle.search_laws.proofs.Counts.{by_gives, by_grows, clauses_grow}
use Rattle.search_laws.proofs.laws.grounding_never_shrinks.Goals as goal

pub returns : goal.returns
returns c = (by_gives, by_grows, clauses_grow)
