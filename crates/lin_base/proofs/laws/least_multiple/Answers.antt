use Rattle.lin_base.proofs.Divisors.{lcm-left, lcm-right, lcm-positive, lcm-least}
use Rattle.lin_base.proofs.laws.least_multiple.Goals as goal

pub returns-clause-left : goal.returns-clause-left
returns-clause-left c = lcm-left

pub returns-clause-right : goal.returns-clause-right
returns-clause-right c = lcm-right

pub returns-clause-positive : goal.returns-clause-positive
returns-clause-positive c = lcm-positive

pub returns-clause-least : goal.returns-clause-least
returns-clause-least c = lcm-least
