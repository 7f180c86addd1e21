use Rattle.std.proofs.lemmas.Result.{MatchResult-weaker}
use Rattle.proof_text.proofs.RulePrinted.{adds-close}
use Rattle.proof_text.proofs.rule_printing.push_close.Goals as goal

pub returns : goal.returns
returns c =
    MatchResult-weaker c.push_cert.result c.push_cert.ensures (λ d e. adds-close c.args.of.now c.args.cert.now c.args.text.now.items c.push.new.text.items c.push_premises.new.text.items c.push_cert.new.text.items c.in_ok-push.ensures c.in_ok-push_premises.ensures e) (λ d e. tt)
