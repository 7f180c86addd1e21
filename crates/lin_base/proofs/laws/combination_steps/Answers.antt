use Rattle.lin_base.proofs.Combine.{combined-error, combined-narrow}
use Rattle.lin_base.proofs.laws.combination_steps.Goals as goal

pub returns-clause-wide : goal.returns-clause-wide
returns-clause-wide c = combined-error

pub returns-clause-narrow : goal.returns-clause-narrow
returns-clause-narrow c = combined-narrow
