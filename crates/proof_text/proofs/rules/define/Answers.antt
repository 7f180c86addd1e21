use Rattle.std.specs.Prelude.{codes}
use Rattle.std.proofs.lemmas.Result.{err_from_is_err_and}
use Rattle.text_pieces.specs.Decimals.{is_digit}
use Rattle.text_pieces.specs.Languages.{Cat}
use Rattle.text_pieces.specs.Numbers.{Number, Word32}
use Rattle.text_pieces.specs.Fronts.{Front}
use Rattle.text_pieces.proofs.Lifts.{lift-image, read_next, next_unread}
use Rattle.text_pieces.proofs.WordReading.{read_front, front_fails, sure-front}
use Rattle.proof_text.specs.Rules.{define_of}
use Rattle.proof_text.proofs.RuleFronts.{next-symbol}
use Rattle.term_text.specs.Terms.{SpellsTerm}
use Rattle.term_text.proofs.VariableFronts.{sure-word32}
use Rattle.term_text.proofs.TermFronts.{sure-term}
use Rattle.proof_text.proofs.rules.define.Goals as goal

pub returns-in_err-term : goal.returns-in_err-term
returns-in_err-term c =
    let l0 = lift-image is_digit define_of (Cat (Front (codes " ") SpellsTerm) (λ t. Front (codes " s") (Number Word32))) c.args.text.now in
    let p = err_from_is_err_and c.from_residual.result c.from_residual.ensures.1 in
    rw (p.1, p.2) (next_unread l0 (λ t. next-symbol) c.in_err-term.field-0.0 c.in_err-term.ensures)

pub returns-in_err-at_symbol : goal.returns-in_err-at_symbol
returns-in_err-at_symbol c =
    let l0 = lift-image is_digit define_of (Cat (Front (codes " ") SpellsTerm) (λ t. Front (codes " s") (Number Word32))) c.args.text.now in
    let l1 = read_next l0 (sure-front (codes " ") sure-term) (λ t. next-symbol) c.in_ok-term.ensures in
    let p = err_from_is_err_and c.from_residual-in_err-at_symbol.result c.from_residual-in_err-at_symbol.ensures.1 in
    rw (p.1, p.2) (front_fails (codes " s") l1 sure-word32 c.in_err-at_symbol.ensures.err)

pub returns-in_err-symbol : goal.returns-in_err-symbol
returns-in_err-symbol c =
    let l0 = lift-image is_digit define_of (Cat (Front (codes " ") SpellsTerm) (λ t. Front (codes " s") (Number Word32))) c.args.text.now in
    let l1 = read_next l0 (sure-front (codes " ") sure-term) (λ t. next-symbol) c.in_ok-term.ensures in
    let l2 = read_front (codes " s") l1 c.in_ok-at_symbol.ensures.ok in
    let p = err_from_is_err_and c.from_residual-in_err-symbol.result c.from_residual-in_err-symbol.ensures.1 in
    rw (p.1, p.2) (l2.fails _ c.in_err-symbol.ensures)

pub returns : goal.returns
returns c =
    let l0 = lift-image is_digit define_of (Cat (Front (codes " ") SpellsTerm) (λ t. Front (codes " s") (Number Word32))) c.args.text.now in
    let l1 = read_next l0 (sure-front (codes " ") sure-term) (λ t. next-symbol) c.in_ok-term.ensures in
    let l2 = read_front (codes " s") l1 c.in_ok-at_symbol.ensures.ok in
    l2.reads _ _ c.in_ok-symbol.ensures
