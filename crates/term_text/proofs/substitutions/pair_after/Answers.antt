use Rattle.std.proofs.Common.{subst}
use Rattle.std.specs.Prelude.{codes}
use Rattle.std.proofs.lemmas.Result.{err_from_is_err_and}
use Rattle.text_pieces.proofs.Lifts.{last_unread}
use Rattle.text_pieces.proofs.WordReading.{read_front, front_fails}
use Rattle.text_pieces.specs.Languages.{Fails, Reads}
use Rattle.term_text.specs.Variables.{VariableFrom}
use Rattle.term_text.proofs.SubstReading.{after_read, after_fails}
use Rattle.term_text.proofs.SubstFronts.{sure-but}
use Rattle.term_text.proofs.substitutions.pair_after.Goals as goal

pub returns-in_err-v : goal.returns-in_err-v
returns-in_err-v c =
    let p = err_from_is_err_and c.from_residual.result c.from_residual.ensures.1 in
    rw (p.1, p.2) (after_fails c.args.last c.requires.numbered (subst (λ z. Fails (VariableFrom z) c.args.text.now c.in_err-v.field-0.0.left) c.low_after.ensures c.in_err-v.ensures))

pub returns-in_err-behind : goal.returns-in_err-behind
returns-in_err-behind c =
    let l1 = after_read c.args.last c.requires.numbered (subst (λ z. Reads (VariableFrom z) c.args.text.now c.in_ok-v.v c.in_ok-v.rest.now) c.low_after.ensures c.in_ok-v.ensures) in
    let p = err_from_is_err_and c.from_residual-in_err-behind.result c.from_residual-in_err-behind.ensures.1 in
    rw (p.1, p.2) (front_fails (codes ">") l1 (sure-but c.in_ok-v.v) c.in_err-behind.ensures.err)

pub returns-in_err-t : goal.returns-in_err-t
returns-in_err-t c =
    let l1 = after_read c.args.last c.requires.numbered (subst (λ z. Reads (VariableFrom z) c.args.text.now c.in_ok-v.v c.in_ok-v.rest.now) c.low_after.ensures c.in_ok-v.ensures) in
    let l2 = read_front (codes ">") l1 c.in_ok-behind.ensures.ok in
    let p = err_from_is_err_and c.from_residual-in_err-t.result c.from_residual-in_err-t.ensures.1 in
    rw (p.1, p.2) (last_unread l2 c.in_err-t.field-0.0 c.in_err-t.ensures)

pub returns : goal.returns
returns c =
    let l1 = after_read c.args.last c.requires.numbered (subst (λ z. Reads (VariableFrom z) c.args.text.now c.in_ok-v.v c.in_ok-v.rest.now) c.low_after.ensures c.in_ok-v.ensures) in
    let l2 = read_front (codes ">") l1 c.in_ok-behind.ensures.ok in
    l2.reads _ _ c.in_ok-t.ensures
