use Rattle.formula_base.proofs.Rows.{bound_row, numbered_row, typed_row, unbound_row, hidden_row}
use Rattle.formula_base.proofs.laws.definitions_give_rows.Goals as goal

pub returns-clause-bound : goal.returns-clause-bound
returns-clause-bound c = bound_row

pub returns-clause-numbered : goal.returns-clause-numbered
returns-clause-numbered c = numbered_row

pub returns-clause-typed : goal.returns-clause-typed
returns-clause-typed c = typed_row

pub returns-clause-unbound : goal.returns-clause-unbound
returns-clause-unbound c = unbound_row

pub returns-clause-hidden : goal.returns-clause-hidden
returns-clause-hidden c = hidden_row
