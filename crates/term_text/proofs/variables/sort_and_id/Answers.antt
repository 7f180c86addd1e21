use Rattle.std.proofs.Common.{subst}
use Rattle.std.specs.Prelude.{codes}
use Rattle.std.proofs.lemmas.Result.{err_from_is_err_and}
use Rattle.text_pieces.specs.Decimals.{is_digit}
use Rattle.text_pieces.specs.Numbers.{Number, Within}
use Rattle.text_pieces.proofs.Lifts.{lift-self, read_next, next_fails}
use Rattle.text_pieces.proofs.WordReading.{read_front, front_fails}
use Rattle.text_pieces.specs.Languages.{Fails, Reads}
use Rattle.term_text.specs.Variables.{SortedFrom}
use Rattle.term_text.proofs.VariableWindows.{sure-sorted_parts, sure-sort, next-id, sure-id}
use Rattle.term_text.proofs.variables.sort_and_id.Goals as goal

pub returns-in_err-behind : goal.returns-in_err-behind
returns-in_err-behind c =
    let l0 = lift-self is_digit (SortedFrom c.args.least) c.args.text.now in
    let p = err_from_is_err_and c.from_residual.result c.from_residual.ensures.1 in
    rw (p.1, p.2) (front_fails (codes "D") l0 (sure-sorted_parts c.args.least c.requires) c.in_err-behind.ensures.err)

pub returns-in_err-n : goal.returns-in_err-n
returns-in_err-n c =
    let l0 = lift-self is_digit (SortedFrom c.args.least) c.args.text.now in
    let l1 = read_front (codes "D") l0 c.in_ok-behind.ensures.ok in
    let p = err_from_is_err_and c.from_residual-in_err-n.result c.from_residual-in_err-n.ensures.1 in
    rw (p.1, p.2) (next_fails l1 (next-id c.args.least c.requires) c.in_err-n.ensures)

pub returns-in_err-behind_dot : goal.returns-in_err-behind_dot
returns-in_err-behind_dot c =
    let l0 = lift-self is_digit (SortedFrom c.args.least) c.args.text.now in
    let l1 = read_front (codes "D") l0 c.in_ok-behind.ensures.ok in
    let l2 = read_next l1 (sure-sort c.args.least c.requires) (next-id c.args.least c.requires) c.in_ok-n.ensures in
    let p = err_from_is_err_and c.from_residual-in_err-behind_dot.result c.from_residual-in_err-behind_dot.ensures.1 in
    rw (p.1, p.2) (front_fails (codes ".") l2 (sure-id c.args.least c.requires c.in_ok-n.n) c.in_err-behind_dot.ensures.err)

pub returns-in_err-id : goal.returns-in_err-id
returns-in_err-id c =
    let l0 = lift-self is_digit (SortedFrom c.args.least) c.args.text.now in
    let l1 = read_front (codes "D") l0 c.in_ok-behind.ensures.ok in
    let l2 = read_next l1 (sure-sort c.args.least c.requires) (next-id c.args.least c.requires) c.in_ok-n.ensures in
    let l3 = read_front (codes ".") l2 c.in_ok-behind_dot.ensures.ok in
    let p = err_from_is_err_and c.from_residual-in_err-id.result c.from_residual-in_err-id.ensures.1 in
    rw (p.1, p.2) (l3.fails _ (subst (λ z. Fails (Number (Within z 4294967295)) c.in_ok-behind_dot.behind_dot.now c.in_err-id.field-0.0.left) c.id_from-first.ensures c.in_err-id.ensures))

pub returns : goal.returns
returns c =
    let l0 = lift-self is_digit (SortedFrom c.args.least) c.args.text.now in
    let l1 = read_front (codes "D") l0 c.in_ok-behind.ensures.ok in
    let l2 = read_next l1 (sure-sort c.args.least c.requires) (next-id c.args.least c.requires) c.in_ok-n.ensures in
    let l3 = read_front (codes ".") l2 c.in_ok-behind_dot.ensures.ok in
    l3.reads _ _ (subst (λ z. Reads (Number (Within z 4294967295)) c.in_ok-behind_dot.behind_dot.now c.in_ok-id.id c.in_ok-id.last.now) c.id_from-first.ensures c.in_ok-id.ensures)
