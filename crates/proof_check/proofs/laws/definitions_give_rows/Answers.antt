use Rattle.proof_check.proofs.RowLemmas as row
use Rattle.proof_check.proofs.laws.definitions_give_rows.Goals as goal

pub returns-clause-cut_off : goal.returns-clause-cut_off
returns-clause-cut_off c = row.cut_off

pub returns-clause-cut_off_first : goal.returns-clause-cut_off_first
returns-clause-cut_off_first c = row.cut_off_first

pub returns-clause-no_cut_inside : goal.returns-clause-no_cut_inside
returns-clause-no_cut_inside c = row.no_cut_inside

pub returns-clause-ends_of_lines : goal.returns-clause-ends_of_lines
returns-clause-ends_of_lines c = row.ends_of_lines
