use Rattle.std.proofs.Common.{◌++◌, ◌∙◌, ap, arith, rules, ◌<◌}
use Rattle.std.proofs.lemmas.Result.{MatchResult-weaker}
use Rattle.text_pieces.specs.Decimals.{decimal}
use Rattle.proof_text.proofs.RulePrinted.{adds-superpose}
use Rattle.proof_text.proofs.rule_printing.push_superpose.Goals as goal

pub returns : goal.returns
returns c =
    let small : c.args.from.1 < 4294967296 = search rules in
    MatchResult-weaker c.push_written.result c.push_written.ensures (λ d e. adds-superpose c.args.from.0 c.args.from.1 c.args.from.2 c.args.into c.args.place.now c.args.s1.now c.args.s2.now c.args.text.now.items c.push.new.text.items c.push_index.new.text.items c.push-2.new.text.items c.push_decimal.new.text.items c.push_side.new.text.items c.push_index-2.new.text.items c.push_at.new.text.items c.push_substitution.new.text.items c.push_written.new.text.items (omega (arith, small)) c.in_ok-push.ensures c.in_ok-push_index.ensures c.in_ok-push-2.ensures (c.in_ok-push_decimal.ensures ∙ ap (λ k. c.push-2.new.text.items ++ decimal k) c.from.ensures) c.in_ok-push_side.ensures c.in_ok-push_index-2.ensures c.in_ok-push_at.ensures c.in_ok-push_substitution.ensures e) (λ d e. tt)
