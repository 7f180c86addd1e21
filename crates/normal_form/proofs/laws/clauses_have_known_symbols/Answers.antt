use Rattle.normal_form.proofs.Known.{known_symbols}
use Rattle.normal_form.proofs.laws.clauses_have_known_symbols.Goals as goal

pub returns : goal.returns
returns c = known_symbols
