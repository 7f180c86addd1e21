use Rattle.tff_lexer.proofs.TokenTexts as law
use Rattle.tff_lexer.proofs.laws.token_texts.Goals as goal

pub returns : goal.returns
returns c = law.token_texts
