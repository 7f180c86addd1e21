use Rattle.search_laws.proofs.FoundValues.{found_check}
use Rattle.search_laws.proofs.laws.found_values_are_checked.Goals as goal

pub returns : goal.returns
returns c = λ pool v is found range. found_check pool v is found range
