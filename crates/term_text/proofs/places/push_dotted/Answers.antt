use Rattle.std.proofs.Common.{◌++◌, ◌∙◌, ap, arith}
use Rattle.std.specs.Prelude.{codes}
use Rattle.std.proofs.lemmas.Result.{MatchResult-weaker}
use Rattle.text_pieces.specs.Decimals.{decimal}
use Rattle.term_text.proofs.Printed.{adds-numbered}
use Rattle.text_pieces.proofs.Keeping.{as_it_was, by_bytes, then_kept, puts_err}
use Rattle.term_text.proofs.places.push_dotted.Goals as goal

pub returns : goal.returns
returns c =
    let small = c.ranges.n.fits in
    MatchResult-weaker c.push_decimal.result c.push_decimal.ensures (λ d e. adds-numbered (codes ".") c.args.n c.args.text.now.items c.push.new.text.items c.push_decimal.new.text.items (omega (arith, small)) c.in_ok-push.ensures (e ∙ ap (λ k. c.push.new.text.items ++ decimal k) c.from.ensures)) (λ d k. then_kept (by_bytes _ c.in_ok-push.ensures) (as_it_was k))

pub returns-in_err-push : goal.returns-in_err-push
returns-in_err-push c = puts_err _ _ _ c.from_residual.result c.from_residual.ensures.1 (as_it_was c.in_err-push.ensures)
