use Rattle.proof_steps.proofs.Cutting.{cut_stands}
use Rattle.proof_steps.proofs.numbering_laws.kept_steps_stand.Goals as goal

pub returns : goal.returns
returns c = cut_stands
