use Rattle.term_base.proofs.LawLemmas.{foreign-none}
use Rattle.term_base.proofs.laws.abstraction_variables_are_integers.Goals as goal

pub returns : goal.returns
returns c = foreign-none
