use Rattle.std.proofs.Common.{◌++◌, ◌∙◌, ap}
use Rattle.proof_text.proofs.RulePrinted.{adds-proof, put_whole}
use Rattle.proof_text.proofs.derivations.print_text.Goals as goal

pub returns : goal.returns
returns c =
    put_whole c.new-text.ensures.items (adds-proof c.args.status c.args.d.now _ c.push.new.text.items c.push-2.new.text.items c.push-3.new.text.items c.push_derivation.new.text.items c.in_ok-push.ensures
    (c.in_ok-push-2.ensures ∙ ap (λ w. c.push.new.text.items ++ w) c.status_word.ensures) c.in_ok-push-3.ensures c.in_ok-push_derivation.ensures)
