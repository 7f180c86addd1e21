use Rattle.std.specs.Prelude.{codes}
use Rattle.std.proofs.lemmas.Result.{err_from_is_err_and}
use Rattle.text_pieces.specs.Ending.{is_digit_or_bracket, no_byte}
use Rattle.text_pieces.specs.Fronts.{Word}
use Rattle.text_pieces.proofs.Ends.{within_none, free_none, followed_fails, read_on}
use Rattle.text_pieces.proofs.Lifts.{lift-image}
use Rattle.text_pieces.proofs.WordReading.{no_word, word_reads, sure-word}
use Rattle.term_base.specs.declared.terms.Term.TheVariants as term
use Rattle.term_text.proofs.terms.truth.Goals as goal

pub returns-in_err-rest : goal.returns-in_err-rest
returns-in_err-rest c =
    let l0 = lift-image is_digit_or_bracket (λ (u : Unit {0}). term.True) (Word (codes "true")) c.args.text.now in
    let p = err_from_is_err_and c.from_residual.result c.from_residual.ensures.1 in
    rw (p.1, p.2) (l0.fails _ (no_word _ (codes "true") _ _ c.in_err-rest.ensures.err))

pub returns-in_err-check_end : goal.returns-in_err-check_end
returns-in_err-check_end c =
    let l0 = lift-image is_digit_or_bracket (λ (u : Unit {0}). term.True) (Word (codes "true")) c.args.text.now in
    let p = err_from_is_err_and c.from_residual-in_err-check_end.result c.from_residual-in_err-check_end.ensures.1 in
    rw (p.1, p.2) (l0.fails _ (followed_fails (within_none is_digit_or_bracket) (sure-word no_byte (codes "true")).one (word_reads no_byte (codes "true") c.args.text.now _ c.in_ok-rest.ensures.ok (free_none _)) c.in_err-check_end.ensures.err))

pub returns : goal.returns
returns c =
    let l0 = lift-image is_digit_or_bracket (λ (u : Unit {0}). term.True) (Word (codes "true")) c.args.text.now in
    (l0.reads _ _ (read_on (word_reads no_byte (codes "true") c.args.text.now _ c.in_ok-rest.ensures.ok (free_none _)) c.in_ok-check_end.ensures.ok))
