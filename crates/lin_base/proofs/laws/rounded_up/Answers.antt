use Rattle.lin_base.proofs.Quotients.{ceil_bounds}
use Rattle.lin_base.proofs.laws.rounded_up.Goals as goal

pub returns-clause-above : goal.returns-clause-above
returns-clause-above c = λ a b h. (ceil_bounds a b h).0

pub returns-clause-least : goal.returns-clause-least
returns-clause-least c = λ a b h. (ceil_bounds a b h).1
