use Rattle.std.proofs.lemmas.Result.{MatchResult-weaker}
use Rattle.proof_text.proofs.RulePrinted.{adds-pin}
use Rattle.proof_text.proofs.rule_printing.push_pin.Goals as goal

pub returns : goal.returns
returns c =
    MatchResult-weaker c.push_index-2.result c.push_index-2.ensures (λ d e. adds-pin c.args.of c.args.literal c.args.text.now.items c.push.new.text.items c.push_index.new.text.items c.push_index-2.new.text.items c.in_ok-push.ensures c.in_ok-push_index.ensures e) (λ d e. tt)
