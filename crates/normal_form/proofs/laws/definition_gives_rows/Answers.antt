use Rattle.normal_form.proofs.Rows.{less_row, not_less_row, bounded_below_row, not_bounded_below_row, joined_row, counted_row}
use Rattle.normal_form.proofs.laws.definition_gives_rows.Goals as goal

pub returns-clause-less : goal.returns-clause-less
returns-clause-less c = less_row

pub returns-clause-not_less : goal.returns-clause-not_less
returns-clause-not_less c = not_less_row

pub returns-clause-bounded_below : goal.returns-clause-bounded_below
returns-clause-bounded_below c = bounded_below_row

pub returns-clause-not_bounded_below : goal.returns-clause-not_bounded_below
returns-clause-not_bounded_below c = not_bounded_below_row

pub returns-clause-joined : goal.returns-clause-joined
returns-clause-joined c = joined_row

pub returns-clause-counted : goal.returns-clause-counted
returns-clause-counted c = counted_row
