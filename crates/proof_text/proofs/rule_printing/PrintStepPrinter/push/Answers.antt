use Rattle.std.proofs.Common.{◌++◌, ◌∙◌, ap, arith, rules, ◌<◌}
use Rattle.std.proofs.lemmas.Result.{MatchResult-weaker}
use Rattle.text_pieces.specs.Decimals.{decimal}
use Rattle.text_pieces.proofs.Putting.{adds-word32}
use Rattle.text_pieces.proofs.Keeping.{as_it_was}
use Rattle.proof_text.proofs.rule_printing.PrintStepPrinter.push.Goals as goal

pub returns : goal.returns
returns c =
    let small : c.args.value.now < 4294967296 = search rules in
    MatchResult-weaker c.push_decimal.result c.push_decimal.ensures (λ d e. adds-word32 c.args.value.now c.args.text.now.items c.push_decimal.new.text.items (omega (arith, small)) (e ∙ ap (λ k. c.args.text.now.items ++ decimal k) c.from.ensures)) (λ d e. as_it_was e)
