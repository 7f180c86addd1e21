use Rattle.std.specs.Prelude.{codes}
use Rattle.std.proofs.lemmas.Result.{err_from_is_err_and}
use Rattle.text_pieces.specs.Decimals.{is_digit}
use Rattle.text_pieces.specs.Languages.{Cat}
use Rattle.text_pieces.specs.Numbers.{Number, Word32}
use Rattle.text_pieces.specs.Ending.{no_byte}
use Rattle.text_pieces.specs.Fronts.{Front}
use Rattle.text_pieces.proofs.Lifts.{lift-image, read_next, next_fails, next_unread, last_unread}
use Rattle.proof_text.specs.Rules.{Index, Written, At, superpose_of}
use Rattle.proof_text.proofs.RuleFronts.{sure-index, after-written, sure-at, next-s2, next-place, next-into, next-from_side, next-from_literal, sure-dotted}
use Rattle.term_text.specs.Places.{SpellsSide}
use Rattle.term_text.specs.Substitutions.{SpellsSubst}
use Rattle.term_text.proofs.Words.{sure-side}
use Rattle.term_text.proofs.SubstFronts.{sure-substitution}
use Rattle.proof_text.proofs.rules.superpose.Goals as goal

pub returns-in_err-from : goal.returns-in_err-from
returns-in_err-from c =
    let l0 = lift-image is_digit superpose_of (Cat Index (λ from. Cat (Front (codes ".") (Number Word32)) (λ literal. Cat SpellsSide (λ side. Cat Index (λ into. Cat At (λ place. Cat SpellsSubst (λ s1. Written))))))) c.args.text.now in
    let p = err_from_is_err_and c.from_residual.result c.from_residual.ensures.1 in
    rw (p.1, p.2) (next_fails l0 (λ from. next-from_literal) c.in_err-from.ensures)

pub returns-in_err-literal : goal.returns-in_err-literal
returns-in_err-literal c =
    let l0 = lift-image is_digit superpose_of (Cat Index (λ from. Cat (Front (codes ".") (Number Word32)) (λ literal. Cat SpellsSide (λ side. Cat Index (λ into. Cat At (λ place. Cat SpellsSubst (λ s1. Written))))))) c.args.text.now in
    let l1 = read_next l0 sure-index (λ from. next-from_literal) c.in_ok-from.ensures in
    let p = err_from_is_err_and c.from_residual-in_err-literal.result c.from_residual-in_err-literal.ensures.1 in
    rw (p.1, p.2) (next_fails l1 (λ literal. next-from_side) c.in_err-literal.ensures)

pub returns-in_err-side : goal.returns-in_err-side
returns-in_err-side c =
    let l0 = lift-image is_digit superpose_of (Cat Index (λ from. Cat (Front (codes ".") (Number Word32)) (λ literal. Cat SpellsSide (λ side. Cat Index (λ into. Cat At (λ place. Cat SpellsSubst (λ s1. Written))))))) c.args.text.now in
    let l1 = read_next l0 sure-index (λ from. next-from_literal) c.in_ok-from.ensures in
    let l2 = read_next l1 sure-dotted (λ literal. next-from_side) c.in_ok-literal.ensures in
    let p = err_from_is_err_and c.from_residual-in_err-side.result c.from_residual-in_err-side.ensures.1 in
    rw (p.1, p.2) (next_fails l2 (λ side. next-into) c.in_err-side.ensures)

pub returns-in_err-into : goal.returns-in_err-into
returns-in_err-into c =
    let l0 = lift-image is_digit superpose_of (Cat Index (λ from. Cat (Front (codes ".") (Number Word32)) (λ literal. Cat SpellsSide (λ side. Cat Index (λ into. Cat At (λ place. Cat SpellsSubst (λ s1. Written))))))) c.args.text.now in
    let l1 = read_next l0 sure-index (λ from. next-from_literal) c.in_ok-from.ensures in
    let l2 = read_next l1 sure-dotted (λ literal. next-from_side) c.in_ok-literal.ensures in
    let l3 = read_next l2 sure-side (λ side. next-into) c.in_ok-side.ensures in
    let p = err_from_is_err_and c.from_residual-in_err-into.result c.from_residual-in_err-into.ensures.1 in
    rw (p.1, p.2) (next_fails l3 (λ into. next-place) c.in_err-into.ensures)

pub returns-in_err-place : goal.returns-in_err-place
returns-in_err-place c =
    let l0 = lift-image is_digit superpose_of (Cat Index (λ from. Cat (Front (codes ".") (Number Word32)) (λ literal. Cat SpellsSide (λ side. Cat Index (λ into. Cat At (λ place. Cat SpellsSubst (λ s1. Written))))))) c.args.text.now in
    let l1 = read_next l0 sure-index (λ from. next-from_literal) c.in_ok-from.ensures in
    let l2 = read_next l1 sure-dotted (λ literal. next-from_side) c.in_ok-literal.ensures in
    let l3 = read_next l2 sure-side (λ side. next-into) c.in_ok-side.ensures in
    let l4 = read_next l3 sure-index (λ into. next-place) c.in_ok-into.ensures in
    let p = err_from_is_err_and c.from_residual-in_err-place.result c.from_residual-in_err-place.ensures.1 in
    rw (p.1, p.2) (next_unread l4 (λ place. next-s2) c.in_err-place.field-0.0 c.in_err-place.ensures)

pub returns-in_err-s1 : goal.returns-in_err-s1
returns-in_err-s1 c =
    let l0 = lift-image is_digit superpose_of (Cat Index (λ from. Cat (Front (codes ".") (Number Word32)) (λ literal. Cat SpellsSide (λ side. Cat Index (λ into. Cat At (λ place. Cat SpellsSubst (λ s1. Written))))))) c.args.text.now in
    let l1 = read_next l0 sure-index (λ from. next-from_literal) c.in_ok-from.ensures in
    let l2 = read_next l1 sure-dotted (λ literal. next-from_side) c.in_ok-literal.ensures in
    let l3 = read_next l2 sure-side (λ side. next-into) c.in_ok-side.ensures in
    let l4 = read_next l3 sure-index (λ into. next-place) c.in_ok-into.ensures in
    let l5 = read_next l4 sure-at (λ place. next-s2) c.in_ok-place.ensures in
    let p = err_from_is_err_and c.from_residual-in_err-s1.result c.from_residual-in_err-s1.ensures.1 in
    rw (p.1, p.2) (next_unread l5 (λ s1. after-written) c.in_err-s1.field-0.0 c.in_err-s1.ensures)

pub returns-in_err-s2 : goal.returns-in_err-s2
returns-in_err-s2 c =
    let l0 = lift-image is_digit superpose_of (Cat Index (λ from. Cat (Front (codes ".") (Number Word32)) (λ literal. Cat SpellsSide (λ side. Cat Index (λ into. Cat At (λ place. Cat SpellsSubst (λ s1. Written))))))) c.args.text.now in
    let l1 = read_next l0 sure-index (λ from. next-from_literal) c.in_ok-from.ensures in
    let l2 = read_next l1 sure-dotted (λ literal. next-from_side) c.in_ok-literal.ensures in
    let l3 = read_next l2 sure-side (λ side. next-into) c.in_ok-side.ensures in
    let l4 = read_next l3 sure-index (λ into. next-place) c.in_ok-into.ensures in
    let l5 = read_next l4 sure-at (λ place. next-s2) c.in_ok-place.ensures in
    let l6 = read_next l5 (sure-substitution no_byte) (λ s1. after-written) c.in_ok-s1.ensures in
    let p = err_from_is_err_and c.from_residual-in_err-s2.result c.from_residual-in_err-s2.ensures.1 in
    rw (p.1, p.2) (last_unread l6 c.in_err-s2.field-0.0 c.in_err-s2.ensures)

pub returns : goal.returns
returns c =
    let l0 = lift-image is_digit superpose_of (Cat Index (λ from. Cat (Front (codes ".") (Number Word32)) (λ literal. Cat SpellsSide (λ side. Cat Index (λ into. Cat At (λ place. Cat SpellsSubst (λ s1. Written))))))) c.args.text.now in
    let l1 = read_next l0 sure-index (λ from. next-from_literal) c.in_ok-from.ensures in
    let l2 = read_next l1 sure-dotted (λ literal. next-from_side) c.in_ok-literal.ensures in
    let l3 = read_next l2 sure-side (λ side. next-into) c.in_ok-side.ensures in
    let l4 = read_next l3 sure-index (λ into. next-place) c.in_ok-into.ensures in
    let l5 = read_next l4 sure-at (λ place. next-s2) c.in_ok-place.ensures in
    let l6 = read_next l5 (sure-substitution no_byte) (λ s1. after-written) c.in_ok-s1.ensures in
    l6.reads _ _ c.in_ok-s2.ensures
