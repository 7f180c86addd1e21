use Rattle.lin_base.proofs.WellFormed.{is_fact-replace, is_fact-tight}
use Rattle.lin_base.proofs.laws.well_formed_facts.Goals as goal

pub returns-clause-replaced : goal.returns-clause-replaced
returns-clause-replaced c = is_fact-replace

pub returns-clause-tightened : goal.returns-clause-tightened
returns-clause-tightened c = is_fact-tight
