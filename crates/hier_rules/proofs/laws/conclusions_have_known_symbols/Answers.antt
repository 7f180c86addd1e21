use Rattle.hier_rules.proofs.SymbolLemmas.{fires_known}
use Rattle.hier_rules.proofs.laws.conclusions_have_known_symbols.Goals as goal

pub returns : goal.returns
returns c S ps qs candidate s1 s2 k n p q known1 known2 f = fires_known S n ps qs candidate s1 s2 k p q known1 known2 f
