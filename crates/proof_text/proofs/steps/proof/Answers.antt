use Rattle.std.specs.Prelude.{codes}
use Rattle.std.proofs.lemmas.Result.{err_from_is_err_and}
use Rattle.text_pieces.specs.Ending.{no_byte}
use Rattle.text_pieces.proofs.Lifts.{lift-self, read_next, next_fails, last_unread}
use Rattle.text_pieces.proofs.WordReading.{read_front, front_fails}
use Rattle.proof_text.specs.Derivations.{Spells}
use Rattle.proof_text.proofs.RuleWords.{sure-status_word}
use Rattle.proof_text.proofs.StepFronts.{next-derivation, sure-status, sure-derivation}
use Rattle.proof_text.proofs.steps.proof.Goals as goal

pub returns-in_err-word : goal.returns-in_err-word
returns-in_err-word c =
    let l0 = lift-self no_byte Spells c.args.text.now in
    let p = err_from_is_err_and c.from_residual.result c.from_residual.ensures.1 in
    rw (p.1, p.2) (front_fails (codes "% SZS status ") l0 sure-status c.in_err-word.ensures.err)

pub returns-in_err-status : goal.returns-in_err-status
returns-in_err-status c =
    let l0 = lift-self no_byte Spells c.args.text.now in
    let l1 = read_front (codes "% SZS status ") l0 c.in_ok-word.ensures.ok in
    let p = err_from_is_err_and c.from_residual-in_err-status.result c.from_residual-in_err-status.ensures.1 in
    rw (p.1, p.2) (next_fails l1 (λ status. next-derivation) c.in_err-status.ensures)

pub returns-in_err-inner : goal.returns-in_err-inner
returns-in_err-inner c =
    let l0 = lift-self no_byte Spells c.args.text.now in
    let l1 = read_front (codes "% SZS status ") l0 c.in_ok-word.ensures.ok in
    let l2 = read_next l1 sure-status_word (λ status. next-derivation) c.in_ok-status.ensures in
    let p = err_from_is_err_and c.from_residual-in_err-inner.result c.from_residual-in_err-inner.ensures.1 in
    rw (p.1, p.2) (front_fails (codes " for stdin\n") l2 sure-derivation c.in_err-inner.ensures.err)

pub returns-in_err-derivation : goal.returns-in_err-derivation
returns-in_err-derivation c =
    let l0 = lift-self no_byte Spells c.args.text.now in
    let l1 = read_front (codes "% SZS status ") l0 c.in_ok-word.ensures.ok in
    let l2 = read_next l1 sure-status_word (λ status. next-derivation) c.in_ok-status.ensures in
    let l3 = read_front (codes " for stdin\n") l2 c.in_ok-inner.ensures.ok in
    let p = err_from_is_err_and c.from_residual-in_err-derivation.result c.from_residual-in_err-derivation.ensures.1 in
    rw (p.1, p.2) (last_unread l3 c.in_err-derivation.field-0.0 c.in_err-derivation.ensures)

pub returns : goal.returns
returns c =
    let l0 = lift-self no_byte Spells c.args.text.now in
    let l1 = read_front (codes "% SZS status ") l0 c.in_ok-word.ensures.ok in
    let l2 = read_next l1 sure-status_word (λ status. next-derivation) c.in_ok-status.ensures in
    let l3 = read_front (codes " for stdin\n") l2 c.in_ok-inner.ensures.ok in
    l3.reads _ _ c.in_ok-derivation.ensures
