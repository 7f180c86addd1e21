use Rattle.arithmetic_answers.proofs.RowLemmas as row
use Rattle.arithmetic_answers.proofs.laws.definitions_give_rows.Goals as goal

pub returns-clause-second_is_empty : goal.returns-clause-second_is_empty
returns-clause-second_is_empty c = row.second_is_empty

pub returns-clause-none_is_empty : goal.returns-clause-none_is_empty
returns-clause-none_is_empty c = row.none_is_empty

pub returns-clause-values_by_place : goal.returns-clause-values_by_place
returns-clause-values_by_place c = row.values_by_place

pub returns-clause-numbers_from_zero : goal.returns-clause-numbers_from_zero
returns-clause-numbers_from_zero c = row.numbers_from_zero

pub returns-clause-four_is_taken : goal.returns-clause-four_is_taken
returns-clause-four_is_taken c = row.four_is_taken

pub returns-clause-two_closed : goal.returns-clause-two_closed
returns-clause-two_closed c = row.two_closed

pub returns-clause-two_statuses : goal.returns-clause-two_statuses
returns-clause-two_statuses c = row.two_statuses

pub returns-clause-two_values : goal.returns-clause-two_values
returns-clause-two_values c = row.two_values

pub returns-clause-wide_sum : goal.returns-clause-wide_sum
returns-clause-wide_sum c = row.wide_sum
