use Rattle.std.proofs.Common.{length}
use Rattle.std.proofs.lemmas.Result.{MatchResult-weaker}
use Rattle.text_pieces.specs.Numbers.{Any}
use Rattle.text_pieces.proofs.Adding.{adds-number, adds-counted}
use Rattle.text_pieces.proofs.Keeping.{by_bytes, then_kept}
use Rattle.text_pieces.proofs.list_printing.push_counted.Goals as goal

pub returns : goal.returns
returns g c =
    let old = c.args.text.now.items in
    let mid = c.push_blank_decimal.new.text.items in
    let values = c.args.values.now in
    MatchResult-weaker c.push_times.result c.push_times.ensures
    (λ d a. adds-counted g.P.Printer.spells values old mid c.push_times.new.text.items (adds-number Any (length values) old mid tt c.in_ok-push_blank_decimal.ensures) a)
    (λ d k. then_kept (by_bytes _ c.in_ok-push_blank_decimal.ensures) k)
