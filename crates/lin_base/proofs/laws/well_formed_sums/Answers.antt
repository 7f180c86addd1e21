use Rattle.lin_base.proofs.WellFormed.{is_lin-add, is_lin-scale, is_lin-without, is_lin-add_number, is_lin-above}
use Rattle.lin_base.proofs.laws.well_formed_sums.Goals as goal

pub returns-clause-sum : goal.returns-clause-sum
returns-clause-sum c = is_lin-add

pub returns-clause-multiple : goal.returns-clause-multiple
returns-clause-multiple c = is_lin-scale

pub returns-clause-rest : goal.returns-clause-rest
returns-clause-rest c = is_lin-without

pub returns-clause-number_added : goal.returns-clause-number_added
returns-clause-number_added c = is_lin-add_number

pub returns-clause-above : goal.returns-clause-above
returns-clause-above c = is_lin-above
