use Rattle.search_laws.proofs.FoundValues.{found_hold}
use Rattle.search_laws.proofs.laws.found_values_hold.Goals as goal

pub returns : goal.returns
returns c = λ pool v is found. found_hold pool v is found
