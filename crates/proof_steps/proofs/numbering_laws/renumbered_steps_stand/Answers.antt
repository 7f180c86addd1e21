use Rattle.proof_steps.proofs.Renumbering.{renumbered_stands}
use Rattle.proof_steps.proofs.numbering_laws.renumbered_steps_stand.Goals as goal

pub returns : goal.returns
returns c = renumbered_stands
