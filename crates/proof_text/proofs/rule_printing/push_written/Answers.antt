use Rattle.std.proofs.lemmas.Result.{MatchResult-weaker}
use Rattle.proof_text.proofs.RulePrinted.{adds-written}
use Rattle.proof_text.proofs.rule_printing.push_written.Goals as goal

pub returns : goal.returns
returns c =
    MatchResult-weaker c.push_substitution.result c.push_substitution.ensures (λ d e. adds-written c.args.s.now c.args.text.now.items c.push.new.text.items c.push_substitution.new.text.items c.in_ok-push.ensures e) (λ d e. tt)
