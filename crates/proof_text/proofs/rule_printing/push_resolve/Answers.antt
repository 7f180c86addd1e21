use Rattle.std.proofs.lemmas.Result.{MatchResult-weaker}
use Rattle.proof_text.proofs.RulePrinted.{adds-resolve}
use Rattle.proof_text.proofs.rule_printing.push_resolve.Goals as goal

pub returns : goal.returns
returns c =
    MatchResult-weaker c.push_written.result c.push_written.ensures (λ d e. adds-resolve c.args.of c.args.literal c.args.s1.now c.args.text.now.items c.push.new.text.items c.push_index.new.text.items c.push_index-2.new.text.items c.push_written.new.text.items c.in_ok-push.ensures c.in_ok-push_index.ensures c.in_ok-push_index-2.ensures e) (λ d e. tt)
