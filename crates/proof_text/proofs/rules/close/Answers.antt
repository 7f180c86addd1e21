use Rattle.std.proofs.lemmas.Result.{err_from_is_err_and}
use Rattle.text_pieces.specs.Decimals.{is_digit}
use Rattle.text_pieces.specs.Languages.{Cat}
use Rattle.text_pieces.proofs.Lifts.{lift-image, read_next, next_unread, last_unread}
use Rattle.proof_text.specs.Rules.{Premises, close_of}
use Rattle.proof_text.proofs.RuleFronts.{sure-premises, next-cert}
use Rattle.cert_text.specs.Grammar.{Spells as SpellsCert}
use Rattle.proof_text.proofs.rules.close.Goals as goal

pub returns-in_err-of : goal.returns-in_err-of
returns-in_err-of c =
    let l0 = lift-image is_digit close_of (Cat Premises (λ of. SpellsCert)) c.args.text.now in
    let p = err_from_is_err_and c.from_residual.result c.from_residual.ensures.1 in
    rw (p.1, p.2) (next_unread l0 (λ of. next-cert) c.in_err-of.field-0.0 c.in_err-of.ensures)

pub returns-in_err-cert : goal.returns-in_err-cert
returns-in_err-cert c =
    let l0 = lift-image is_digit close_of (Cat Premises (λ of. SpellsCert)) c.args.text.now in
    let l1 = read_next l0 sure-premises (λ of. next-cert) c.in_ok-of.ensures in
    let p = err_from_is_err_and c.from_residual-in_err-cert.result c.from_residual-in_err-cert.ensures.1 in
    rw (p.1, p.2) (last_unread l1 c.in_err-cert.field-0.0 c.in_err-cert.ensures)

pub returns : goal.returns
returns c =
    let l0 = lift-image is_digit close_of (Cat Premises (λ of. SpellsCert)) c.args.text.now in
    let l1 = read_next l0 sure-premises (λ of. next-cert) c.in_ok-of.ensures in
    l1.reads _ _ c.in_ok-cert.ensures
