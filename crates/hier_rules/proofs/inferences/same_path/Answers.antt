use Rattle.hier_rules.specs.SameCandidateLemmas.{paths_equal}
use Rattle.hier_rules.proofs.inferences.same_path.Goals as goal

pub returns : goal.returns
returns c = paths_equal c.same.result c.args.path.now c.args.other.now c.same.ensures
