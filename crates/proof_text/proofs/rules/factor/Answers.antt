use Rattle.std.proofs.lemmas.Result.{err_from_is_err_and}
use Rattle.text_pieces.specs.Decimals.{is_digit}
use Rattle.text_pieces.specs.Languages.{Cat}
use Rattle.text_pieces.proofs.Lifts.{lift-image, read_next, next_fails, last_unread}
use Rattle.proof_text.specs.Rules.{Index, Written, Sided, factor_of}
use Rattle.proof_text.proofs.RuleFronts.{sure-index, next-written, sure-sided, next-second, next-first}
use Rattle.proof_text.proofs.rules.factor.Goals as goal

pub returns-in_err-of : goal.returns-in_err-of
returns-in_err-of c =
    let l0 = lift-image is_digit factor_of (Cat Index (λ of. Cat Sided (λ first. Cat Sided (λ second. Written)))) c.args.text.now in
    let p = err_from_is_err_and c.from_residual.result c.from_residual.ensures.1 in
    rw (p.1, p.2) (next_fails l0 (λ of. next-first) c.in_err-of.ensures)

pub returns-in_err-one : goal.returns-in_err-one
returns-in_err-one c =
    let l0 = lift-image is_digit factor_of (Cat Index (λ of. Cat Sided (λ first. Cat Sided (λ second. Written)))) c.args.text.now in
    let l1 = read_next l0 sure-index (λ of. next-first) c.in_ok-of.ensures in
    let p = err_from_is_err_and c.from_residual-in_err-one.result c.from_residual-in_err-one.ensures.1 in
    rw (p.1, p.2) (next_fails l1 (λ first. next-second) c.in_err-one.ensures)

pub returns-in_err-two : goal.returns-in_err-two
returns-in_err-two c =
    let l0 = lift-image is_digit factor_of (Cat Index (λ of. Cat Sided (λ first. Cat Sided (λ second. Written)))) c.args.text.now in
    let l1 = read_next l0 sure-index (λ of. next-first) c.in_ok-of.ensures in
    let l2 = read_next l1 sure-sided (λ first. next-second) c.in_ok-one.ensures in
    let p = err_from_is_err_and c.from_residual-in_err-two.result c.from_residual-in_err-two.ensures.1 in
    rw (p.1, p.2) (next_fails l2 (λ second. next-written) c.in_err-two.ensures)

pub returns-in_err-s1 : goal.returns-in_err-s1
returns-in_err-s1 c =
    let l0 = lift-image is_digit factor_of (Cat Index (λ of. Cat Sided (λ first. Cat Sided (λ second. Written)))) c.args.text.now in
    let l1 = read_next l0 sure-index (λ of. next-first) c.in_ok-of.ensures in
    let l2 = read_next l1 sure-sided (λ first. next-second) c.in_ok-one.ensures in
    let l3 = read_next l2 sure-sided (λ second. next-written) c.in_ok-two.ensures in
    let p = err_from_is_err_and c.from_residual-in_err-s1.result c.from_residual-in_err-s1.ensures.1 in
    rw (p.1, p.2) (last_unread l3 c.in_err-s1.field-0.0 c.in_err-s1.ensures)

pub returns : goal.returns
returns c =
    let l0 = lift-image is_digit factor_of (Cat Index (λ of. Cat Sided (λ first. Cat Sided (λ second. Written)))) c.args.text.now in
    let l1 = read_next l0 sure-index (λ of. next-first) c.in_ok-of.ensures in
    let l2 = read_next l1 sure-sided (λ first. next-second) c.in_ok-one.ensures in
    let l3 = read_next l2 sure-sided (λ second. next-written) c.in_ok-two.ensures in
    l3.reads _ _ c.in_ok-s1.ensures
