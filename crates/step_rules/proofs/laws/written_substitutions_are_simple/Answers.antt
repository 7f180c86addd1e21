use Rattle.step_rules.proofs.Written.{written}
use Rattle.step_rules.proofs.laws.written_substitutions_are_simple.Goals as goal

pub returns : goal.returns
returns c = written
