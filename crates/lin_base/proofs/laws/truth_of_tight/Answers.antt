use Rattle.lin_base.proofs.Tightening.{tight_keeps}
use Rattle.lin_base.proofs.laws.truth_of_tight.Goals as goal

pub returns : goal.returns
returns c = tight_keeps
