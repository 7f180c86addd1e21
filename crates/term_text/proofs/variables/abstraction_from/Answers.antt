use Rattle.std.proofs.lemmas.Result.{err_from_is_err_and}
use Rattle.term_text.proofs.VariableWindows.{abstraction_in, no_abstraction, is_abstraction}
use Rattle.term_text.proofs.variables.abstraction_from.Goals as goal

pub returns-then-low-ge-INDIVIDUALS : goal.returns-then-low-ge-INDIVIDUALS
returns-then-low-ge-INDIVIDUALS c = no_abstraction c.args.low c.args.text.now c.requires.low c.if-low-ge-INDIVIDUALS.true c.requires.kind

pub returns-in_err-id : goal.returns-in_err-id
returns-in_err-id c =
    let l0 = abstraction_in c.args.low c.args.text.now c.requires.kind in
    let p = err_from_is_err_and c.from_residual.result c.from_residual.ensures.1 in
    rw (p.1, p.2) (l0.fails _ c.in_err-id.ensures)

pub returns : goal.returns
returns c =
    let l0 = abstraction_in c.args.low c.args.text.now c.requires.kind in
    let e = c.abstraction.ensures in
    rw (is_abstraction c.abstraction.result c.in_ok-id.id e.kind e.sort e.id) (l0.reads _ _ c.in_ok-id.ensures)
