use Rattle.std.proofs.Common.{◌≡◌, ◌++◌, ◌^◌, ◌<◌, ap, ◌∙◌, arith}
use Rattle.std.proofs.lemmas.Result.{MatchResult-weaker}
use Rattle.text_pieces.specs.Decimals.{decimal}
use Rattle.text_pieces.proofs.Adding.{written_number}
use Rattle.text_pieces.proofs.printing.push_decimal.Goals as goal

pub returns : goal.returns
returns c =
    let small : c.args.n < 2 ^ 128 = omega (arith, c.ranges.n.fits) in
    let bytes : c.as_bytes.result.now ≡ decimal c.args.n = c.as_bytes.ensures.value ∙ c.in_ok-digits.ensures.ok ∙ ap (λ ds. ds) (written_number c.args.n small) in
    MatchResult-weaker c.push.result c.push.ensures (λ d e. e ∙ ap (λ bs. c.args.text.now.items ++ bs) bytes) (λ d e. e)
