use Rattle.tff_lexer.proofs.TokenTexts as law
use Rattle.tff_lexer.proofs.laws.stop_text.Goals as goal

pub returns : goal.returns
returns c = law.stop_text
