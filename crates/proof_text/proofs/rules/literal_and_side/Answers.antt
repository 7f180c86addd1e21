use Rattle.std.proofs.lemmas.Result.{err_from_is_err_and}
use Rattle.text_pieces.specs.Decimals.{is_digit}
use Rattle.text_pieces.proofs.Lifts.{lift-self, read_next, next_fails}
use Rattle.proof_text.specs.Rules.{Sided}
use Rattle.proof_text.proofs.RuleFronts.{sure-index}
use Rattle.term_text.proofs.PlaceReading.{next-side}
use Rattle.proof_text.proofs.rules.literal_and_side.Goals as goal

pub returns-in_err-literal : goal.returns-in_err-literal
returns-in_err-literal c =
    let l0 = lift-self is_digit Sided c.args.text.now in
    let p = err_from_is_err_and c.from_residual.result c.from_residual.ensures.1 in
    rw (p.1, p.2) (next_fails l0 (λ n. next-side) c.in_err-literal.ensures)

pub returns-in_err-side : goal.returns-in_err-side
returns-in_err-side c =
    let l0 = lift-self is_digit Sided c.args.text.now in
    let l1 = read_next l0 sure-index (λ n. next-side) c.in_ok-literal.ensures in
    let p = err_from_is_err_and c.from_residual-in_err-side.result c.from_residual-in_err-side.ensures.1 in
    rw (p.1, p.2) (l1.fails _ c.in_err-side.ensures)

pub returns : goal.returns
returns c =
    let l0 = lift-self is_digit Sided c.args.text.now in
    let l1 = read_next l0 sure-index (λ n. next-side) c.in_ok-literal.ensures in
    l1.reads _ _ c.in_ok-side.ensures
