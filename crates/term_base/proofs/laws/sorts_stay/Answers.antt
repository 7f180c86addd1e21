use Rattle.term_base.specs.SubstLemmas.{sort-put_in}
use Rattle.term_base.proofs.laws.sorts_stay.Goals as goal

pub returns : goal.returns
returns c = sort-put_in
