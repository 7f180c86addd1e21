use Rattle.search_laws.proofs.Right.{parts_in_range}
use Rattle.search_laws.proofs.laws.numbers_are_in_range.Goals as goal

pub returns : goal.returns
returns c = λ pool h. parts_in_range pool h
