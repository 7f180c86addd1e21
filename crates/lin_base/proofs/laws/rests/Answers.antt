use Rattle.lin_base.proofs.Occurring.{without-absent, without-scale, without-negated}
use Rattle.lin_base.proofs.laws.rests.Goals as goal

pub returns-clause-absent : goal.returns-clause-absent
returns-clause-absent c = without-absent

pub returns-clause-multiple : goal.returns-clause-multiple
returns-clause-multiple c = without-scale

pub returns-clause-negated : goal.returns-clause-negated
returns-clause-negated c = without-negated
