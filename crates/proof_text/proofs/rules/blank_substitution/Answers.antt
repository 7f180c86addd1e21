use Rattle.std.specs.Prelude.{codes}
use Rattle.std.proofs.lemmas.Result.{err_from_is_err_and}
use Rattle.text_pieces.specs.Decimals.{is_digit}
use Rattle.text_pieces.specs.Ending.{no_byte}
use Rattle.text_pieces.proofs.Ends.{within_none}
use Rattle.text_pieces.proofs.Lifts.{lift-self, last_unread, unread_within}
use Rattle.text_pieces.proofs.WordReading.{read_front, front_fails}
use Rattle.proof_text.specs.Rules.{Written}
use Rattle.proof_text.proofs.NoDigit.{digit_fails, no_digit_reads}
use Rattle.term_text.specs.Substitutions.{SpellsSubst}
use Rattle.term_text.proofs.SubstFronts.{sure-substitution}
use Rattle.proof_text.proofs.rules.blank_substitution.Goals as goal

pub returns-in_err-behind : goal.returns-in_err-behind
returns-in_err-behind c =
    let l0 = lift-self is_digit Written c.args.text.now in
    let p = err_from_is_err_and c.from_residual.result c.from_residual.ensures.1 in
    rw (p.1, p.2) (front_fails (codes " ") l0 (sure-substitution is_digit) c.in_err-behind.ensures.err)

pub returns-in_err-s : goal.returns-in_err-s
returns-in_err-s c =
    let l0 = lift-self is_digit Written c.args.text.now in
    let l1 = read_front (codes " ") l0 c.in_ok-behind.ensures.ok in
    let p = err_from_is_err_and c.from_residual-in_err-s.result c.from_residual-in_err-s.ensures.1 in
    rw (p.1, p.2) (last_unread l1 c.in_err-s.field-0.0 (unread_within no_byte is_digit SpellsSubst _ (within_none is_digit) c.in_err-s.field-0.0 c.in_err-s.ensures))

pub returns-in_err-last : goal.returns-in_err-last
returns-in_err-last c =
    let l0 = lift-self is_digit Written c.args.text.now in
    let l1 = read_front (codes " ") l0 c.in_ok-behind.ensures.ok in
    let p = err_from_is_err_and c.from_residual-in_err-last.result c.from_residual-in_err-last.ensures.1 in
    rw (p.1, p.2) (l1.fails _ (digit_fails (sure-substitution no_byte).one c.in_ok-s.ensures c.in_err-last.ensures))

pub returns : goal.returns
returns c =
    let l0 = lift-self is_digit Written c.args.text.now in
    let l1 = read_front (codes " ") l0 c.in_ok-behind.ensures.ok in
    l1.reads _ _ (no_digit_reads c.in_ok-s.ensures c.in_ok-last.ensures)
