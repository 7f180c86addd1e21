use Rattle.std.proofs.Common.{true, false, [], ◌∙◌, sym}
use Rattle.std.specs.Prelude.{codes}
use Rattle.std.proofs.lemmas.Result.{err_from_is_err_and}
use Rattle.text_pieces.specs.Ending.{no_byte}
use Rattle.text_pieces.specs.Fronts.{Word}
use Rattle.text_pieces.proofs.Ends.{free_none}
use Rattle.text_pieces.proofs.Lifts.{lift-self, lift-then, lift-image, last_unread}
use Rattle.text_pieces.proofs.WordReading.{read_front, front_fails, no_word, word_reads}
use Rattle.term_text.proofs.SubstReading.{pairs_substitution}
use Rattle.term_text.proofs.SubstFronts.{pairs_at, sure-pairs}
use Rattle.term_text.specs.Substitutions.{SpellsSubst}
use Rattle.term_text.proofs.substitutions.substitution.Goals as goal

pub returns-in_err-inner : goal.returns-in_err-inner
returns-in_err-inner c =
    let l0 = lift-self no_byte SpellsSubst c.args.text.now in
    let p = err_from_is_err_and c.from_residual.result c.from_residual.ensures.1 in
    rw (p.1, p.2) (front_fails (codes "[") l0 (sure-pairs no_byte) c.in_err-inner.ensures.err)

pub returns-in_err-rest : goal.returns-in_err-rest
returns-in_err-rest c =
    let l1 = read_front (codes "[") (lift-self no_byte SpellsSubst c.args.text.now) c.in_ok-inner.ensures.ok in
    let l2 = lift-then l1 (lift-then (pairs_at c.in_ok-inner.inner.now true (sym c.begins_with.ensures ∙ c.if-begins_with.true)) (lift-image no_byte (λ (u : Unit {0}). []) (Word (codes "]")) c.in_ok-inner.inner.now)) in
    let p = err_from_is_err_and c.from_residual-in_err-rest.result c.from_residual-in_err-rest.ensures.1 in
    rw (p.1, p.2) (l2.fails _ (no_word _ (codes "]") _ _ c.in_err-rest.ensures.err))

pub returns-then-begins_with : goal.returns-then-begins_with
returns-then-begins_with c =
    let l1 = read_front (codes "[") (lift-self no_byte SpellsSubst c.args.text.now) c.in_ok-inner.ensures.ok in
    let l2 = lift-then l1 (lift-then (pairs_at c.in_ok-inner.inner.now true (sym c.begins_with.ensures ∙ c.if-begins_with.true)) (lift-image no_byte (λ (u : Unit {0}). []) (Word (codes "]")) c.in_ok-inner.inner.now)) in
    rw c.empty.ensures (l2.reads tt _ (word_reads no_byte (codes "]") _ _ c.in_ok-rest.ensures.ok (free_none _)))

pub returns-in_err-all : goal.returns-in_err-all
returns-in_err-all c =
    let l1 = read_front (codes "[") (lift-self no_byte SpellsSubst c.args.text.now) c.in_ok-inner.ensures.ok in
    let l2 = lift-then l1 (pairs_at c.in_ok-inner.inner.now false (sym c.begins_with.ensures ∙ c.if-begins_with.false)) in
    let p = err_from_is_err_and c.from_residual-in_err-all.result c.from_residual-in_err-all.ensures.1 in
    rw (p.1, p.2) (last_unread l2 c.in_err-all.field-0.0 c.in_err-all.ensures)

pub from_pairs-requires : goal.from_pairs-requires
from_pairs-requires c = pairs_substitution _ _ c.in_ok-all.ensures.spelled

pub returns : goal.returns
returns c =
    let l1 = read_front (codes "[") (lift-self no_byte SpellsSubst c.args.text.now) c.in_ok-inner.ensures.ok in
    let l2 = lift-then l1 (pairs_at c.in_ok-inner.inner.now false (sym c.begins_with.ensures ∙ c.if-begins_with.false)) in
    rw c.from_pairs.ensures (l2.reads _ _ c.in_ok-all.ensures)
