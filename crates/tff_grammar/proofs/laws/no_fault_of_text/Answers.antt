use Rattle.tff_grammar.proofs.Determined as law
use Rattle.tff_grammar.proofs.laws.no_fault_of_text.Goals as goal

pub returns : goal.returns
returns c = law.no_fault_of_text c.one_scan.ensures
