use Rattle.cert_text.proofs.Printed.{adds-clash}
use Rattle.std.proofs.lemmas.Result.{MatchResult-weaker}
use Rattle.text_pieces.proofs.Keeping.{as_it_was, by_bytes, then_kept, puts_err}
use Rattle.cert_text.proofs.tree_printing.push_clash.Goals as goal

pub returns-in_err-push : goal.returns-in_err-push
returns-in_err-push c = puts_err _ _ _ c.from_residual.result c.from_residual.ensures.1 (as_it_was c.in_err-push.ensures)

pub returns : goal.returns
returns c =
    MatchResult-weaker c.push_index.result c.push_index.ensures
    (λ d a. adds-clash c.args.fact c.args.text.now.items c.push.new.text.items c.push_index.new.text.items c.in_ok-push.ensures a)
    (λ d k. then_kept (by_bytes _ c.in_ok-push.ensures) k)
