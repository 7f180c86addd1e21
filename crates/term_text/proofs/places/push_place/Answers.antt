use Rattle.std.proofs.Common.{◌++◌, ◌∙◌, ap, subst, rules, ◌<◌}
use Rattle.std.proofs.lemmas.Result.{MatchResult-weaker}
use Rattle.text_pieces.specs.Decimals.{decimal}
use Rattle.term_text.proofs.Printed.{adds-place}
use Rattle.term_text.specs.Places.{SpellsPath}
use Rattle.text_pieces.specs.Printing.{Adds}
use Rattle.text_pieces.proofs.Keeping.{as_it_was, by_bytes, then_added, then_kept, puts_err}
use Rattle.term_text.proofs.places.push_place.Goals as goal

pub returns : goal.returns
returns c =
    let small : c.args.place.now.literal < 4294967296 = search rules in
    MatchResult-weaker c.push_path.result c.push_path.ensures (λ d e. adds-place c.args.place.now.literal c.args.place.now.side c.args.place.now.path c.args.text.now.items c.push_decimal.new.text.items c.push_side.new.text.items c.push_path.new.text.items small (c.in_ok-push_decimal.ensures ∙ ap (λ k. c.args.text.now.items ++ decimal k) c.from.ensures) c.in_ok-push_side.ensures (subst (λ z. Adds SpellsPath z c.push_side.new.text.items c.push_path.new.text.items) c.as_slice.ensures e)) (λ d k. then_kept (then_added (by_bytes _ c.in_ok-push_decimal.ensures) c.in_ok-push_side.ensures) k)

pub returns-in_err-push_decimal : goal.returns-in_err-push_decimal
returns-in_err-push_decimal c = puts_err _ _ _ c.from_residual.result c.from_residual.ensures.1 (as_it_was c.in_err-push_decimal.ensures)

pub returns-in_err-push_side : goal.returns-in_err-push_side
returns-in_err-push_side c = puts_err _ _ _ c.from_residual-in_err-push_side.result c.from_residual-in_err-push_side.ensures.1 (then_kept (by_bytes _ c.in_ok-push_decimal.ensures) c.in_err-push_side.ensures)
