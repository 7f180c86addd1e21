use Rattle.normal_form.proofs.Typed.{well_sorted}
use Rattle.normal_form.proofs.laws.clauses_are_well_sorted.Goals as goal

pub returns : goal.returns
returns c = well_sorted
