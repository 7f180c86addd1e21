use Rattle.std.proofs.Common.{◌++◌, ◌∙◌, ap, arith, ◌^◌, ◌<◌}
use Rattle.std.proofs.lemmas.Result.{MatchResult-weaker}
use Rattle.text_pieces.specs.Decimals.{decimal}
use Rattle.proof_text.proofs.RulePrinted.{adds-define}
use Rattle.proof_text.proofs.rule_printing.push_define.Goals as goal

pub returns : goal.returns
returns c =
    let smallsymbol : c.args.symbol < 2 ^ 32 = omega (arith, c.ranges.symbol.fits) in
    MatchResult-weaker c.push_decimal.result c.push_decimal.ensures (λ d e. adds-define c.args.term.now c.args.symbol c.args.text.now.items c.push.new.text.items c.push_term.new.text.items c.push-2.new.text.items c.push_decimal.new.text.items smallsymbol c.in_ok-push.ensures c.in_ok-push_term.ensures.spelled c.in_ok-push-2.ensures (e ∙ ap (λ k. c.push-2.new.text.items ++ decimal k) c.from.ensures)) (λ d e. tt)
