use Rattle.std.proofs.Common.{◌≡◌, ◌++◌, ap, ◌∙◌}
use Rattle.std.specs.Int.{w128}
use Rattle.std.specs.Fmt.{signed_decimal as fmt_signed}
use Rattle.std.proofs.lemmas.Int.{to_z-of_z}
use Rattle.std.proofs.lemmas.Result.{MatchResult-weaker}
use Rattle.text_pieces.specs.Decimals.{signed_decimal}
use Rattle.text_pieces.proofs.Adding.{written_signed}
use Rattle.text_pieces.proofs.printing.push_signed_decimal.Goals as goal

pub returns : goal.returns
returns c =
    let bytes : c.as_bytes.result.now ≡ signed_decimal c.args.z = c.as_bytes.ensures.value ∙ c.in_ok-digits.ensures.ok ∙ ap (λ ds. ds) (ap fmt_signed (to_z-of_z w128 c.args.z c.ranges.z) ∙ written_signed c.args.z c.ranges.z) in
    MatchResult-weaker c.push.result c.push.ensures (λ d e. e ∙ ap (λ bs. c.args.text.now.items ++ bs) bytes) (λ d e. e)
