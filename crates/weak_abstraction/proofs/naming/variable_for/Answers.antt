use Rattle.std.proofs.Common.{rules}
use Rattle.term_base.specs.SameLemmas.{variables_equal}
use Rattle.weak_abstraction.proofs.naming.variable_for.Goals as goal

pub returns : goal.returns
returns c = variables_equal _ _ (search rules) (search rules) (search rules)
