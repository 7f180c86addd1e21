use Rattle.proof_text.proofs.RulePrinted.{put_whole}
use Rattle.proof_text.proofs.derivations.print_derivation.Goals as goal

pub returns : goal.returns
returns c = put_whole c.new-text.ensures.items c.in_ok-push_derivation.ensures
