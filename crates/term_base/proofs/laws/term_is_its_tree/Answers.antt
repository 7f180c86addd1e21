use Rattle.term_base.specs.TreeBack.{tree_injective}
use Rattle.term_base.proofs.laws.term_is_its_tree.Goals as goal

pub returns : goal.returns
returns c = tree_injective
