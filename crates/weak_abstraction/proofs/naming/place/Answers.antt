use Rattle.std.proofs.Common.{◌∙◌, sym}
use Rattle.weak_abstraction.proofs.KeyLemmas.{place-found, place-none}
use Rattle.weak_abstraction.proofs.naming.place.Goals as goal

pub returns-in-Some : goal.returns-in-Some
returns-in-Some c = sym (place-found (record { term = c.args.t }) c.args.found.now.keys c.in-Some.at (sym c.get_index_of.ensures.index ∙ c.in-Some.is))

pub returns-in-None : goal.returns-in-None
returns-in-None c = c.len.ensures.len ∙ sym (place-none (record { term = c.args.t }) c.args.found.now.keys (sym c.get_index_of.ensures.index ∙ c.in-None.is))
