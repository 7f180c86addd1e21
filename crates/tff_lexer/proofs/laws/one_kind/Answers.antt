use Rattle.tff_lexer.proofs.OneKind as law
use Rattle.tff_lexer.proofs.laws.one_kind.Goals as goal

pub returns : goal.returns
returns c = law.one_kind
