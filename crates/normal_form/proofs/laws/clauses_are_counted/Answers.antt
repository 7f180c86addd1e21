use Rattle.normal_form.proofs.Counted.{clauses_counted}
use Rattle.normal_form.proofs.laws.clauses_are_counted.Goals as goal

pub returns : goal.returns
returns c = clauses_counted
