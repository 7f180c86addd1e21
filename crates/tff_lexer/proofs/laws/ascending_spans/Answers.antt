use Rattle.tff_lexer.proofs.TokenTexts as law
use Rattle.tff_lexer.proofs.laws.ascending_spans.Goals as goal

pub returns : goal.returns
returns c = law.ascending_spans
