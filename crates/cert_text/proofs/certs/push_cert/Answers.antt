use Rattle.std.proofs.Common.{subst}
use Rattle.text_pieces.specs.Languages.{Blank}
use Rattle.text_pieces.specs.Numbers.{Counted}
use Rattle.text_pieces.specs.Printing.{Adds}
use Rattle.cert_text.specs.Grammar.{SpellsRow}
use Rattle.cert_text.proofs.Printed.{adds-cert}
use Rattle.std.proofs.lemmas.Result.{MatchResult-weaker}
use Rattle.text_pieces.proofs.Keeping.{as_it_was, by_bytes, then_kept, then_added, puts_err}
use Rattle.cert_text.proofs.certs.push_cert.Goals as goal

pub returns-in_err-push : goal.returns-in_err-push
returns-in_err-push c = puts_err _ _ _ c.from_residual.result c.from_residual.ensures.1 (as_it_was c.in_err-push.ensures)

pub returns-in_err-push_rows : goal.returns-in_err-push_rows
returns-in_err-push_rows c = puts_err _ _ _ c.from_residual-in_err-push_rows.result c.from_residual-in_err-push_rows.ensures.1 (then_kept (by_bytes _ c.in_ok-push.ensures) c.in_err-push_rows.ensures)

pub returns : goal.returns
returns c =
    let rows : Adds (Counted (Blank SpellsRow)) c.args.cert.now.rows c.push.new.text.items c.push_rows.new.text.items =
    subst (λ rs. Adds (Counted (Blank SpellsRow)) rs c.push.new.text.items c.push_rows.new.text.items) c.as_slice.ensures c.in_ok-push_rows.ensures in
    MatchResult-weaker c.push_blank_tree.result c.push_blank_tree.ensures
    (λ d a. adds-cert c.args.cert.now c.args.text.now.items c.push.new.text.items c.push_rows.new.text.items c.push_blank_tree.new.text.items c.in_ok-push.ensures rows a)
    (λ d k. then_kept (then_added (by_bytes _ c.in_ok-push.ensures) c.in_ok-push_rows.ensures) k)
