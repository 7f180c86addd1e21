use Rattle.lin_base.proofs.Values.{coef-add, coef-scale, coef-absent}
use Rattle.lin_base.proofs.laws.coefficients.Goals as goal

pub returns-clause-sum : goal.returns-clause-sum
returns-clause-sum c = coef-add

pub returns-clause-multiple : goal.returns-clause-multiple
returns-clause-multiple c = coef-scale

pub returns-clause-absent : goal.returns-clause-absent
returns-clause-absent c = coef-absent
