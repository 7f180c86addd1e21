use Rattle.std.proofs.Common.{◌++◌, get_or, take, drop, suc, drop-cons, sym, ap, ◌∙◌}
use Rattle.std.proofs.lemmas.List.{take-append-drop}
use Rattle.text_pieces.proofs.Choices.{exactly_stops, exactly_digit, take_whole}
use Rattle.text_pieces.proofs.words.exactly.Goals as goal

pub returns-in_default : goal.returns-in_default
returns-in_default c =
    let word = c.args.word.now in
    let i = c.loop-byte.byte-index in
    exactly_stops word (take i word) (drop (suc i) word) (get_or word i 0) c.args.text.now c.loop-byte.rest.now
    (sym (take-append-drop i word) ∙ ap (λ t. take i word ++ t) (drop-cons word i 0 c.loop-byte-test.true)) c.loop-byte.invariant c.in_default.ensures.none

pub returns-then-begins_with_digit : goal.returns-then-begins_with_digit
returns-then-begins_with_digit c =
    exactly_digit c.args.word.now c.args.text.now c.loop-byte.rest.now (c.loop-byte.invariant ∙ ap (λ t. t ++ c.loop-byte.rest.now) (take_whole c.loop-byte.byte-index c.args.word.now c.loop-byte-test.false))
    (c.begins_with_digit.ensures.yes c.if-begins_with_digit.true)
