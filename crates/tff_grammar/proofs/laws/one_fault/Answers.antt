use Rattle.tff_grammar.proofs.Determined as law
use Rattle.tff_grammar.proofs.laws.one_fault.Goals as goal

pub returns : goal.returns
returns c = law.one_fault c.one_scan.ensures
