use Rattle.proof_steps.proofs.EarlierSteps.{empty-clause}
use Rattle.proof_steps.proofs.closing.is_empty_clause.Goals as goal

pub returns : goal.returns
returns c = empty-clause c.is_empty.result c.args.c.now.literals c.is_empty.ensures
