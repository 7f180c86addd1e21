use Rattle.term_base.specs.SimpleSubst.{simple-after}
use Rattle.term_base.proofs.laws.simple_substitutions_compose.Goals as goal

pub returns : goal.returns
returns c = simple-after
