use Rattle.std.proofs.Common.{◌++◌, ◌∙◌, ap, subst}
use Rattle.std.proofs.lemmas.Result.{MatchResult-weaker}
use Rattle.proof_text.specs.Derivations.{StepLines}
use Rattle.proof_text.proofs.RulePrinted.{adds-derivation}
use Rattle.text_pieces.specs.Printing.{Adds}
use Rattle.proof_text.proofs.step_printing.push_derivation.Goals as goal

pub returns : goal.returns
returns c =
    MatchResult-weaker c.push_steps.result c.push_steps.ensures (λ d e. adds-derivation c.args.d.now c.args.text.now.items c.push.new.text.items c.push-2.new.text.items c.push-3.new.text.items c.push_steps.new.text.items c.in_ok-push.ensures (c.in_ok-push-2.ensures ∙ ap (λ w. c.push.new.text.items ++ w) c.variables_word.ensures) c.in_ok-push-3.ensures (subst (λ z. Adds (StepLines 0) z c.push-3.new.text.items c.push_steps.new.text.items) c.as_slice.ensures e)) (λ d e. tt)
