use Rattle.std.proofs.lemmas.Result.{err_from_is_err_and}
use Rattle.text_pieces.specs.Decimals.{is_digit}
use Rattle.text_pieces.specs.Languages.{Cat}
use Rattle.text_pieces.specs.Numbers.{Number, Word32}
use Rattle.text_pieces.proofs.Lifts.{lift-image, read_next, next_fails, next_unread, last_unread}
use Rattle.proof_text.specs.Rules.{Index, Written, At, demodulate_of}
use Rattle.proof_text.proofs.RuleFronts.{sure-index, next-written, sure-at, next-by_side, next-by, next-demodulated}
use Rattle.term_text.specs.Places.{SpellsSide}
use Rattle.term_text.proofs.VariableFronts.{sure-word32}
use Rattle.term_text.proofs.Words.{sure-side}
use Rattle.proof_text.proofs.rules.demodulate.Goals as goal

pub returns-in_err-of : goal.returns-in_err-of
returns-in_err-of c =
    let l0 = lift-image is_digit demodulate_of (Cat Index (λ of. Cat At (λ place. Cat (Number Word32) (λ by. Cat SpellsSide (λ side. Written))))) c.args.text.now in
    let p = err_from_is_err_and c.from_residual.result c.from_residual.ensures.1 in
    rw (p.1, p.2) (next_fails l0 (λ of. next-demodulated) c.in_err-of.ensures)

pub returns-in_err-place : goal.returns-in_err-place
returns-in_err-place c =
    let l0 = lift-image is_digit demodulate_of (Cat Index (λ of. Cat At (λ place. Cat (Number Word32) (λ by. Cat SpellsSide (λ side. Written))))) c.args.text.now in
    let l1 = read_next l0 sure-index (λ of. next-demodulated) c.in_ok-of.ensures in
    let p = err_from_is_err_and c.from_residual-in_err-place.result c.from_residual-in_err-place.ensures.1 in
    rw (p.1, p.2) (next_unread l1 (λ place. next-by) c.in_err-place.field-0.0 c.in_err-place.ensures)

pub returns-in_err-by : goal.returns-in_err-by
returns-in_err-by c =
    let l0 = lift-image is_digit demodulate_of (Cat Index (λ of. Cat At (λ place. Cat (Number Word32) (λ by. Cat SpellsSide (λ side. Written))))) c.args.text.now in
    let l1 = read_next l0 sure-index (λ of. next-demodulated) c.in_ok-of.ensures in
    let l2 = read_next l1 sure-at (λ place. next-by) c.in_ok-place.ensures in
    let p = err_from_is_err_and c.from_residual-in_err-by.result c.from_residual-in_err-by.ensures.1 in
    rw (p.1, p.2) (next_fails l2 (λ by. next-by_side) c.in_err-by.ensures)

pub returns-in_err-side : goal.returns-in_err-side
returns-in_err-side c =
    let l0 = lift-image is_digit demodulate_of (Cat Index (λ of. Cat At (λ place. Cat (Number Word32) (λ by. Cat SpellsSide (λ side. Written))))) c.args.text.now in
    let l1 = read_next l0 sure-index (λ of. next-demodulated) c.in_ok-of.ensures in
    let l2 = read_next l1 sure-at (λ place. next-by) c.in_ok-place.ensures in
    let l3 = read_next l2 sure-word32 (λ by. next-by_side) c.in_ok-by.ensures in
    let p = err_from_is_err_and c.from_residual-in_err-side.result c.from_residual-in_err-side.ensures.1 in
    rw (p.1, p.2) (next_fails l3 (λ side. next-written) c.in_err-side.ensures)

pub returns-in_err-s1 : goal.returns-in_err-s1
returns-in_err-s1 c =
    let l0 = lift-image is_digit demodulate_of (Cat Index (λ of. Cat At (λ place. Cat (Number Word32) (λ by. Cat SpellsSide (λ side. Written))))) c.args.text.now in
    let l1 = read_next l0 sure-index (λ of. next-demodulated) c.in_ok-of.ensures in
    let l2 = read_next l1 sure-at (λ place. next-by) c.in_ok-place.ensures in
    let l3 = read_next l2 sure-word32 (λ by. next-by_side) c.in_ok-by.ensures in
    let l4 = read_next l3 sure-side (λ side. next-written) c.in_ok-side.ensures in
    let p = err_from_is_err_and c.from_residual-in_err-s1.result c.from_residual-in_err-s1.ensures.1 in
    rw (p.1, p.2) (last_unread l4 c.in_err-s1.field-0.0 c.in_err-s1.ensures)

pub returns : goal.returns
returns c =
    let l0 = lift-image is_digit demodulate_of (Cat Index (λ of. Cat At (λ place. Cat (Number Word32) (λ by. Cat SpellsSide (λ side. Written))))) c.args.text.now in
    let l1 = read_next l0 sure-index (λ of. next-demodulated) c.in_ok-of.ensures in
    let l2 = read_next l1 sure-at (λ place. next-by) c.in_ok-place.ensures in
    let l3 = read_next l2 sure-word32 (λ by. next-by_side) c.in_ok-by.ensures in
    let l4 = read_next l3 sure-side (λ side. next-written) c.in_ok-side.ensures in
    l4.reads _ _ c.in_ok-s1.ensures
