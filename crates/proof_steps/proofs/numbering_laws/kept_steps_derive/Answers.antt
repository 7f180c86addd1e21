use Rattle.proof_steps.proofs.Cutting.{cut_derives}
use Rattle.proof_steps.proofs.numbering_laws.kept_steps_derive.Goals as goal

pub returns : goal.returns
returns c = cut_derives
