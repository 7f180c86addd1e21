use Rattle.tff_grammar.proofs.SomeAnswer as law
use Rattle.tff_grammar.proofs.laws.some_answer.Goals as goal

pub returns : goal.returns
returns c = law.some_answer
