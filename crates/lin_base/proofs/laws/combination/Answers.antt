use Rattle.lin_base.proofs.Combine.{value-combined, small_combined, is_lin-combined}
use Rattle.lin_base.proofs.laws.combination.Goals as goal

pub returns-clause-value : goal.returns-clause-value
returns-clause-value c = value-combined

pub returns-clause-at_most_zero : goal.returns-clause-at_most_zero
returns-clause-at_most_zero c = small_combined

pub returns-clause-well_formed : goal.returns-clause-well_formed
returns-clause-well_formed c = is_lin-combined
