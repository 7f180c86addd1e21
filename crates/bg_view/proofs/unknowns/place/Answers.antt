use Rattle.std.proofs.Common.{◌∙◌, sym}
use Rattle.bg_view.proofs.Keys.{place-found, place-none}
use Rattle.bg_view.proofs.unknowns.place.Goals as goal

pub returns-in-Some-clause-place : goal.returns-in-Some-clause-place
returns-in-Some-clause-place c = sym (place-found c.args.v c.args.variables.now.keys c.in-Some.at (sym c.get_index_of.ensures.index ∙ c.in-Some.is))

pub returns-in-None-clause-place : goal.returns-in-None-clause-place
returns-in-None-clause-place c = c.len.ensures.len ∙ sym (place-none c.args.v c.args.variables.now.keys (sym c.get_index_of.ensures.index ∙ c.in-None.is))
