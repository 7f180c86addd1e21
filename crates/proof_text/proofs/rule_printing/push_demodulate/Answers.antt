use Rattle.std.proofs.Common.{◌++◌, ◌∙◌, ap, arith, rules, ◌<◌}
use Rattle.std.proofs.lemmas.Result.{MatchResult-weaker}
use Rattle.text_pieces.specs.Decimals.{decimal}
use Rattle.proof_text.proofs.RulePrinted.{adds-demodulate}
use Rattle.proof_text.proofs.rule_printing.push_demodulate.Goals as goal

pub returns : goal.returns
returns c =
    let small : c.args.by.0 < 4294967296 = search rules in
    MatchResult-weaker c.push_written.result c.push_written.ensures (λ d e. adds-demodulate c.args.of c.args.place.now c.args.by.0 c.args.by.1 c.args.s1.now c.args.text.now.items c.push.new.text.items c.push_index.new.text.items c.push_at.new.text.items c.push_decimal.new.text.items c.push_side.new.text.items c.push_written.new.text.items (omega (arith, small)) c.in_ok-push.ensures c.in_ok-push_index.ensures c.in_ok-push_at.ensures (c.in_ok-push_decimal.ensures ∙ ap (λ k. c.push_at.new.text.items ++ decimal k) c.from.ensures) c.in_ok-push_side.ensures e) (λ d e. tt)
