use Rattle.std.proofs.Common.{rules, FitsSigned}
use Rattle.std.specs.Int.{w128}
use Rattle.std.proofs.lemmas.Int.{to_z-of_z}
use Rattle.std.proofs.lemmas.Result.{err_from_is_err_and}
use Rattle.cert_text.proofs.Rooms.{term_fails_first, term_second}
use Rattle.cert_text.proofs.lins.term.Goals as goal

pub returns-in_err-x : goal.returns-in_err-x
returns-in_err-x c =
    let p = err_from_is_err_and c.from_residual.result c.from_residual.ensures.1 in
    rw (p.1, p.2) (term_fails_first c.args.low c.args.high c.args.text.now c.in_err-x.field-0.0.left c.in_err-x.ensures)

pub returns-in_err-k : goal.returns-in_err-k
returns-in_err-k c =
    let p = err_from_is_err_and c.from_residual-in_err-k.result c.from_residual-in_err-k.ensures.1 in
    let lift = term_second c.args.low c.args.high c.args.text.now c.in_ok-x.rest.now c.in_ok-x.x c.in_ok-x.ensures in
    rw (p.1, p.2) (lift.fails c.in_err-k.field-0.0.left c.in_err-k.ensures)

pub returns : goal.returns
returns c =
    let lift = term_second c.args.low c.args.high c.args.text.now c.in_ok-x.rest.now c.in_ok-x.x c.in_ok-x.ensures in
    let fits : FitsSigned w128 c.in_ok-k.k = search rules in
    rw (to_z-of_z w128 c.in_ok-k.k fits) (lift.reads c.in_ok-k.k c.in_ok-k.rest.now c.in_ok-k.ensures)
