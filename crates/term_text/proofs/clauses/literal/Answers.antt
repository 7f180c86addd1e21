use Rattle.std.proofs.Common.{[], refl}
use Rattle.std.specs.Prelude.{codes}
use Rattle.std.proofs.lemmas.Result.{err_from_is_err_and}
use Rattle.text_pieces.specs.Languages.{Cat}
use Rattle.text_pieces.specs.Ending.{is_digit_or_bracket}
use Rattle.text_pieces.specs.Fronts.{Front}
use Rattle.text_pieces.proofs.Lifts.{lift-image, read_next, next_fails, next_unread, last_unread}
use Rattle.text_pieces.proofs.WordReading.{read_front, front_fails, next-front}
use Rattle.term_text.proofs.TermFronts.{sure-term}
use Rattle.term_text.specs.Terms.{SpellsTerm}
use Rattle.term_text.proofs.ClauseReading.{sure-related}
use Rattle.term_text.proofs.Words.{sure-relation}
use Rattle.term_text.specs.Clauses.{RelationWord, literal_of}
use Rattle.term_text.proofs.clauses.literal.Goals as goal

pub returns-in_err-s : goal.returns-in_err-s
returns-in_err-s c =
    let l0 = lift-image is_digit_or_bracket literal_of (Cat SpellsTerm (λ s. Front (codes " ") (Cat RelationWord (λ relation. Front (codes " ") SpellsTerm)))) c.args.text.now in
    let p = err_from_is_err_and c.from_residual.result c.from_residual.ensures.1 in
    rw (p.1, p.2) (next_unread l0 (λ s. next-front 32 [] refl sure-related) c.in_err-s.field-0.0 c.in_err-s.ensures)

pub returns-in_err-word : goal.returns-in_err-word
returns-in_err-word c =
    let l0 = lift-image is_digit_or_bracket literal_of (Cat SpellsTerm (λ s. Front (codes " ") (Cat RelationWord (λ relation. Front (codes " ") SpellsTerm)))) c.args.text.now in
    let l1 = read_next l0 sure-term (λ s. next-front 32 [] refl sure-related) c.in_ok-s.ensures in
    let p = err_from_is_err_and c.from_residual-in_err-word.result c.from_residual-in_err-word.ensures.1 in
    rw (p.1, p.2) (front_fails (codes " ") l1 sure-related c.in_err-word.ensures.err)

pub returns-in_err-relation : goal.returns-in_err-relation
returns-in_err-relation c =
    let l0 = lift-image is_digit_or_bracket literal_of (Cat SpellsTerm (λ s. Front (codes " ") (Cat RelationWord (λ relation. Front (codes " ") SpellsTerm)))) c.args.text.now in
    let l1 = read_next l0 sure-term (λ s. next-front 32 [] refl sure-related) c.in_ok-s.ensures in
    let l2 = read_front (codes " ") l1 c.in_ok-word.ensures.ok in
    let p = err_from_is_err_and c.from_residual-in_err-relation.result c.from_residual-in_err-relation.ensures.1 in
    rw (p.1, p.2) (next_fails l2 (λ r. next-front 32 [] refl sure-term) c.in_err-relation.ensures)

pub returns-in_err-at_t : goal.returns-in_err-at_t
returns-in_err-at_t c =
    let l0 = lift-image is_digit_or_bracket literal_of (Cat SpellsTerm (λ s. Front (codes " ") (Cat RelationWord (λ relation. Front (codes " ") SpellsTerm)))) c.args.text.now in
    let l1 = read_next l0 sure-term (λ s. next-front 32 [] refl sure-related) c.in_ok-s.ensures in
    let l2 = read_front (codes " ") l1 c.in_ok-word.ensures.ok in
    let l3 = read_next l2 sure-relation (λ r. next-front 32 [] refl sure-term) c.in_ok-relation.ensures in
    let p = err_from_is_err_and c.from_residual-in_err-at_t.result c.from_residual-in_err-at_t.ensures.1 in
    rw (p.1, p.2) (front_fails (codes " ") l3 sure-term c.in_err-at_t.ensures.err)

pub returns-in_err-t : goal.returns-in_err-t
returns-in_err-t c =
    let l0 = lift-image is_digit_or_bracket literal_of (Cat SpellsTerm (λ s. Front (codes " ") (Cat RelationWord (λ relation. Front (codes " ") SpellsTerm)))) c.args.text.now in
    let l1 = read_next l0 sure-term (λ s. next-front 32 [] refl sure-related) c.in_ok-s.ensures in
    let l2 = read_front (codes " ") l1 c.in_ok-word.ensures.ok in
    let l3 = read_next l2 sure-relation (λ r. next-front 32 [] refl sure-term) c.in_ok-relation.ensures in
    let l4 = read_front (codes " ") l3 c.in_ok-at_t.ensures.ok in
    let p = err_from_is_err_and c.from_residual-in_err-t.result c.from_residual-in_err-t.ensures.1 in
    rw (p.1, p.2) (last_unread l4 c.in_err-t.field-0.0 c.in_err-t.ensures)

pub returns : goal.returns
returns c =
    let l0 = lift-image is_digit_or_bracket literal_of (Cat SpellsTerm (λ s. Front (codes " ") (Cat RelationWord (λ relation. Front (codes " ") SpellsTerm)))) c.args.text.now in
    let l1 = read_next l0 sure-term (λ s. next-front 32 [] refl sure-related) c.in_ok-s.ensures in
    let l2 = read_front (codes " ") l1 c.in_ok-word.ensures.ok in
    let l3 = read_next l2 sure-relation (λ r. next-front 32 [] refl sure-term) c.in_ok-relation.ensures in
    let l4 = read_front (codes " ") l3 c.in_ok-at_t.ensures.ok in
    rw c.make_literal.ensures (l4.reads _ _ c.in_ok-t.ensures)
