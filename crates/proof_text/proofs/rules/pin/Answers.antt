use Rattle.std.proofs.lemmas.Result.{err_from_is_err_and}
use Rattle.text_pieces.specs.Decimals.{is_digit}
use Rattle.text_pieces.specs.Languages.{Cat}
use Rattle.text_pieces.proofs.Lifts.{lift-image, read_next, next_fails}
use Rattle.proof_text.specs.Rules.{Index, pin_of}
use Rattle.proof_text.proofs.RuleFronts.{sure-index, next-index}
use Rattle.proof_text.proofs.rules.pin.Goals as goal

pub returns-in_err-of : goal.returns-in_err-of
returns-in_err-of c =
    let l0 = lift-image is_digit pin_of (Cat Index (λ of. Index)) c.args.text.now in
    let p = err_from_is_err_and c.from_residual.result c.from_residual.ensures.1 in
    rw (p.1, p.2) (next_fails l0 (λ of. next-index) c.in_err-of.ensures)

pub returns-in_err-literal : goal.returns-in_err-literal
returns-in_err-literal c =
    let l0 = lift-image is_digit pin_of (Cat Index (λ of. Index)) c.args.text.now in
    let l1 = read_next l0 sure-index (λ of. next-index) c.in_ok-of.ensures in
    let p = err_from_is_err_and c.from_residual-in_err-literal.result c.from_residual-in_err-literal.ensures.1 in
    rw (p.1, p.2) (l1.fails _ c.in_err-literal.ensures)

pub returns : goal.returns
returns c =
    let l0 = lift-image is_digit pin_of (Cat Index (λ of. Index)) c.args.text.now in
    let l1 = read_next l0 sure-index (λ of. next-index) c.in_ok-of.ensures in
    l1.reads _ _ c.in_ok-literal.ensures
