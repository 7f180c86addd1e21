use Rattle.std.proofs.Common.{subst}
use Rattle.std.proofs.lemmas.Result.{err_from_is_err_and}
use Rattle.term_text.specs.Variables.{SortedFrom}
use Rattle.term_text.proofs.VariableWindows.{declared_in, is_declared}
use Rattle.term_text.proofs.variables.declared_from.Goals as goal
use Rattle.text_pieces.specs.Languages.{Fails, Reads}

pub returns-in_err-n : goal.returns-in_err-n
returns-in_err-n c =
    let l0 = declared_in c.args.low c.args.text.now c.requires.kind in
    let p = err_from_is_err_and c.from_residual.result c.from_residual.ensures.1 in
    rw (p.1, p.2) (l0.fails _ (subst (λ z. Fails (SortedFrom z) c.args.text.now c.in_err-n.field-0.0.left) c.saturating_sub.ensures c.in_err-n.ensures))

pub returns : goal.returns
returns c =
    let l0 = declared_in c.args.low c.args.text.now c.requires.kind in
    let e = c.ordinary.ensures in
    rw (is_declared c.ordinary.result (c.in_ok-n.n, c.in_ok-n.id) e.kind e.sort e.id) (l0.reads _ _ (subst (λ z. Reads (SortedFrom z) c.args.text.now (c.in_ok-n.n, c.in_ok-n.id) c.in_ok-n.rest.now) c.saturating_sub.ensures c.in_ok-n.ensures))
