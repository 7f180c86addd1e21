use Rattle.std.proofs.Common.{subst}
use Rattle.std.specs.Int.{w128}
use Rattle.std.proofs.lemmas.Int.{to_z-of_z}
use Rattle.text_pieces.specs.Printing.{Adds}
use Rattle.cert_text.specs.Grammar.{Whole}
use Rattle.cert_text.proofs.Printed.{adds-low}
use Rattle.std.proofs.lemmas.Result.{MatchResult-weaker}
use Rattle.text_pieces.proofs.Keeping.{as_it_was, by_bytes, then_kept, then_added, puts_err}
use Rattle.cert_text.proofs.printing.push_low.Goals as goal

pub returns-in_err-push : goal.returns-in_err-push
returns-in_err-push c = puts_err _ _ _ c.from_residual.result c.from_residual.ensures.1 (as_it_was c.in_err-push.ensures)

pub returns-in_err-push_index : goal.returns-in_err-push_index
returns-in_err-push_index c = puts_err _ _ _ c.from_residual-in_err-push_index.result c.from_residual-in_err-push_index.ensures.1 (then_kept (by_bytes _ c.in_ok-push.ensures) c.in_err-push_index.ensures)

pub returns-in_err-push_index-2 : goal.returns-in_err-push_index-2
returns-in_err-push_index-2 c = puts_err _ _ _ c.from_residual-in_err-push_index-2.result c.from_residual-in_err-push_index-2.ensures.1 (then_kept (then_added (by_bytes _ c.in_ok-push.ensures) c.in_ok-push_index.ensures) c.in_err-push_index-2.ensures)

pub returns : goal.returns
returns c =
    MatchResult-weaker c.push_whole.result c.push_whole.ensures
    (λ d a. adds-low c.args.clause c.args.x c.args.j c.args.text.now.items c.push.new.text.items c.push_index.new.text.items c.push_index-2.new.text.items c.push_whole.new.text.items c.in_ok-push.ensures c.in_ok-push_index.ensures c.in_ok-push_index-2.ensures (subst (λ z. Adds Whole z c.push_index-2.new.text.items c.push_whole.new.text.items) (to_z-of_z w128 c.args.j c.ranges.j) a))
    (λ d k. then_kept (then_added (then_added (by_bytes _ c.in_ok-push.ensures) c.in_ok-push_index.ensures) c.in_ok-push_index-2.ensures) k)
