use Rattle.std.proofs.lemmas.Result.{MatchResult-weaker}
use Rattle.proof_text.proofs.RulePrinted.{adds-step}
use Rattle.proof_text.proofs.step_printing.push_step.Goals as goal

pub returns : goal.returns
returns c =
    MatchResult-weaker c.push_clause_line.result c.push_clause_line.ensures.spelled (λ d e. adds-step c.args.n c.args.step.now c.args.text.now.items c.push_decimal.new.text.items c.push.new.text.items c.push_rule.new.text.items c.push-2.new.text.items c.push_clause_line.new.text.items c.in_ok-push_decimal.ensures c.in_ok-push.ensures c.in_ok-push_rule.ensures c.in_ok-push-2.ensures e) (λ d e. tt)
