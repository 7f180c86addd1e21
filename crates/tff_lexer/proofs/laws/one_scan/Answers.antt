use Rattle.tff_lexer.proofs.OneScan as law
use Rattle.tff_lexer.proofs.laws.one_scan.Goals as goal

pub returns : goal.returns
returns c = law.one_scan
