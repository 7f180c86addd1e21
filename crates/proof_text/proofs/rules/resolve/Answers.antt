use Rattle.std.proofs.lemmas.Result.{err_from_is_err_and}
use Rattle.text_pieces.specs.Decimals.{is_digit}
use Rattle.text_pieces.specs.Languages.{Cat}
use Rattle.text_pieces.proofs.Lifts.{lift-image, read_next, next_fails, last_unread}
use Rattle.proof_text.specs.Rules.{Index, Written, resolve_of}
use Rattle.proof_text.proofs.RuleFronts.{sure-index, next-written, next-resolved}
use Rattle.proof_text.proofs.rules.resolve.Goals as goal

pub returns-in_err-of : goal.returns-in_err-of
returns-in_err-of c =
    let l0 = lift-image is_digit resolve_of (Cat Index (λ of. Cat Index (λ literal. Written))) c.args.text.now in
    let p = err_from_is_err_and c.from_residual.result c.from_residual.ensures.1 in
    rw (p.1, p.2) (next_fails l0 (λ of. next-resolved) c.in_err-of.ensures)

pub returns-in_err-literal : goal.returns-in_err-literal
returns-in_err-literal c =
    let l0 = lift-image is_digit resolve_of (Cat Index (λ of. Cat Index (λ literal. Written))) c.args.text.now in
    let l1 = read_next l0 sure-index (λ of. next-resolved) c.in_ok-of.ensures in
    let p = err_from_is_err_and c.from_residual-in_err-literal.result c.from_residual-in_err-literal.ensures.1 in
    rw (p.1, p.2) (next_fails l1 (λ literal. next-written) c.in_err-literal.ensures)

pub returns-in_err-s1 : goal.returns-in_err-s1
returns-in_err-s1 c =
    let l0 = lift-image is_digit resolve_of (Cat Index (λ of. Cat Index (λ literal. Written))) c.args.text.now in
    let l1 = read_next l0 sure-index (λ of. next-resolved) c.in_ok-of.ensures in
    let l2 = read_next l1 sure-index (λ literal. next-written) c.in_ok-literal.ensures in
    let p = err_from_is_err_and c.from_residual-in_err-s1.result c.from_residual-in_err-s1.ensures.1 in
    rw (p.1, p.2) (last_unread l2 c.in_err-s1.field-0.0 c.in_err-s1.ensures)

pub returns : goal.returns
returns c =
    let l0 = lift-image is_digit resolve_of (Cat Index (λ of. Cat Index (λ literal. Written))) c.args.text.now in
    let l1 = read_next l0 sure-index (λ of. next-resolved) c.in_ok-of.ensures in
    let l2 = read_next l1 sure-index (λ literal. next-written) c.in_ok-literal.ensures in
    l2.reads _ _ c.in_ok-s1.ensures
