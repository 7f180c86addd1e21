use Rattle.std.proofs.lemmas.Result.{err_from_is_err_and}
use Rattle.text_pieces.specs.Languages.{Cat}
use Rattle.text_pieces.specs.Numbers.{Number, Word32}
use Rattle.text_pieces.specs.Ending.{no_byte}
use Rattle.text_pieces.proofs.Lifts.{lift-image, read_next, next_fails, last_unread}
use Rattle.term_text.proofs.VariableFronts.{sure-word32}
use Rattle.term_text.proofs.Words.{sure-side}
use Rattle.term_text.proofs.PlaceReading.{next-side_path, next-path}
use Rattle.term_text.specs.Places.{SpellsSide, SpellsPath, place_of}
use Rattle.term_text.proofs.places.place.Goals as goal

pub returns-in_err-literal : goal.returns-in_err-literal
returns-in_err-literal c =
    let l0 = lift-image no_byte place_of (Cat (Number Word32) (λ n. Cat SpellsSide (λ side. SpellsPath))) c.args.text.now in
    let p = err_from_is_err_and c.from_residual.result c.from_residual.ensures.1 in
    rw (p.1, p.2) (next_fails l0 (λ n. next-side_path) c.in_err-literal.ensures)

pub returns-in_err-side : goal.returns-in_err-side
returns-in_err-side c =
    let l0 = lift-image no_byte place_of (Cat (Number Word32) (λ n. Cat SpellsSide (λ side. SpellsPath))) c.args.text.now in
    let l1 = read_next l0 sure-word32 (λ n. next-side_path) c.in_ok-literal.ensures in
    let p = err_from_is_err_and c.from_residual-in_err-side.result c.from_residual-in_err-side.ensures.1 in
    rw (p.1, p.2) (next_fails l1 (λ s. next-path) c.in_err-side.ensures)

pub returns-in_err-steps : goal.returns-in_err-steps
returns-in_err-steps c =
    let l0 = lift-image no_byte place_of (Cat (Number Word32) (λ n. Cat SpellsSide (λ side. SpellsPath))) c.args.text.now in
    let l1 = read_next l0 sure-word32 (λ n. next-side_path) c.in_ok-literal.ensures in
    let l2 = read_next l1 sure-side (λ s. next-path) c.in_ok-side.ensures in
    let p = err_from_is_err_and c.from_residual-in_err-steps.result c.from_residual-in_err-steps.ensures.1 in
    rw (p.1, p.2) (last_unread l2 c.in_err-steps.field-0.0 c.in_err-steps.ensures)

pub returns : goal.returns
returns c =
    let l0 = lift-image no_byte place_of (Cat (Number Word32) (λ n. Cat SpellsSide (λ side. SpellsPath))) c.args.text.now in
    let l1 = read_next l0 sure-word32 (λ n. next-side_path) c.in_ok-literal.ensures in
    let l2 = read_next l1 sure-side (λ s. next-path) c.in_ok-side.ensures in
    let path = c.in_ok-path.ensures in
    rw (path, c.as_slice.ensures) (l2.reads _ _ c.in_ok-steps.ensures)
