use Rattle.std.proofs.Common.{◌∷◌, ◌++◌, ◌∙◌, ap, arith, ◌^◌, ◌<◌}
use Rattle.std.proofs.lemmas.Result.{MatchResult-weaker}
use Rattle.text_pieces.specs.Decimals.{decimal}
use Rattle.proof_text.proofs.RulePrinted.{adds-index}
use Rattle.proof_text.proofs.rule_printing.push_index.Goals as goal

pub returns : goal.returns
returns c =
    let smalln : c.args.n < 2 ^ 32 = omega (arith, c.ranges.n.fits) in
    MatchResult-weaker c.push_blank_decimal.result c.push_blank_decimal.ensures (λ d e. adds-index c.args.n c.args.text.now.items c.push_blank_decimal.new.text.items smalln (e ∙ ap (λ k. c.args.text.now.items ++ 32 ∷ decimal k) c.from.ensures)) (λ d e. tt)
