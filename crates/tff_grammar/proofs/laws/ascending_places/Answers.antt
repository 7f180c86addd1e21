use Rattle.tff_grammar.proofs.Order as law
use Rattle.tff_grammar.proofs.laws.ascending_places.Goals as goal

pub returns : goal.returns
returns c = law.ascending_places c.ascending_spans.ensures
