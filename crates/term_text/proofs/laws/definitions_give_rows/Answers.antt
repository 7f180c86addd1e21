use Rattle.term_text.proofs.RowLemmas as row
use Rattle.term_text.proofs.laws.definitions_give_rows.Goals as goal

pub returns-clause-empty_clause : goal.returns-clause-empty_clause
returns-clause-empty_clause c = row.empty_clause

pub returns-clause-sum_and_multiple : goal.returns-clause-sum_and_multiple
returns-clause-sum_and_multiple c = row.sum_and_multiple

pub returns-clause-two_arguments : goal.returns-clause-two_arguments
returns-clause-two_arguments c = row.two_arguments

pub returns-clause-two_sorts : goal.returns-clause-two_sorts
returns-clause-two_sorts c = row.two_sorts
