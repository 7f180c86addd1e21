use Rattle.std.proofs.lemmas.Result.{MatchResult-weaker}
use Rattle.proof_text.proofs.RulePrinted.{adds-at}
use Rattle.proof_text.proofs.rule_printing.push_at.Goals as goal

pub returns : goal.returns
returns c =
    MatchResult-weaker c.push_place.result c.push_place.ensures (λ d e. adds-at c.args.place.now c.args.text.now.items c.push.new.text.items c.push_place.new.text.items c.in_ok-push.ensures e) (λ d e. tt)
