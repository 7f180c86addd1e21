use Rattle.text_pieces.proofs.Adding.{adds-blank}
use Rattle.cert_text.specs.Grammar.{SpellsRow}
use Rattle.std.proofs.lemmas.Result.{MatchResult-weaker}
use Rattle.text_pieces.proofs.Keeping.{as_it_was, by_bytes, then_kept, puts_err}
use Rattle.cert_text.proofs.printing.PrintRowPrinter.push.Goals as goal

pub returns-in_err-push : goal.returns-in_err-push
returns-in_err-push c = puts_err _ _ _ c.from_residual.result c.from_residual.ensures.1 (as_it_was c.in_err-push.ensures)

pub returns : goal.returns
returns c =
    MatchResult-weaker c.push_row.result c.push_row.ensures
    (λ d a. adds-blank SpellsRow c.args.row.now c.args.text.now.items c.push.new.text.items c.push_row.new.text.items c.in_ok-push.ensures a)
    (λ d k. then_kept (by_bytes _ c.in_ok-push.ensures) k)
