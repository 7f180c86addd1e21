use Rattle.term_base.specs.SameLiteral.{clause_injective}
use Rattle.term_base.proofs.laws.clause_is_its_literals.Goals as goal

pub returns : goal.returns
returns c = clause_injective
