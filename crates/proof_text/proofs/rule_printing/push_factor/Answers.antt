use Rattle.std.proofs.lemmas.Result.{MatchResult-weaker}
use Rattle.proof_text.proofs.RulePrinted.{adds-factor}
use Rattle.proof_text.proofs.rule_printing.push_factor.Goals as goal

pub returns : goal.returns
returns c =
    MatchResult-weaker c.push_written.result c.push_written.ensures (λ d e. adds-factor c.args.of c.args.first.0 c.args.first.1 c.args.second.0 c.args.second.1 c.args.s1.now c.args.text.now.items c.push.new.text.items c.push_index.new.text.items c.push_sided.new.text.items c.push_sided-2.new.text.items c.push_written.new.text.items c.in_ok-push.ensures c.in_ok-push_index.ensures c.in_ok-push_sided.ensures c.in_ok-push_sided-2.ensures e) (λ d e. tt)
