use Rattle.std.proofs.lemmas.Result.{MatchResult-weaker}
use Rattle.proof_text.proofs.RulePrinted.{adds-sided}
use Rattle.proof_text.proofs.rule_printing.push_sided.Goals as goal

pub returns : goal.returns
returns c =
    MatchResult-weaker c.push_side.result c.push_side.ensures (λ d e. adds-sided c.args.literal c.args.side c.args.text.now.items c.push_index.new.text.items c.push_side.new.text.items c.in_ok-push_index.ensures e) (λ d e. tt)
