use Rattle.std.proofs.Common.{sym, ◌∙◌}
use Rattle.proof_steps.proofs.Arguments.{no-arguments}
use Rattle.proof_steps.proofs.defining.are_none.Goals as goal

pub returns : goal.returns
returns c = c.is_empty.ensures ∙ sym (no-arguments c.args.args.now)
