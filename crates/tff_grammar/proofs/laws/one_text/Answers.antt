use Rattle.tff_grammar.proofs.Determined as law
use Rattle.tff_grammar.proofs.laws.one_text.Goals as goal

pub returns : goal.returns
returns c = law.one_text c.one_scan.ensures
