use Rattle.std.proofs.Common.{rules, FitsSigned}
use Rattle.std.specs.Int.{w128}
use Rattle.std.proofs.lemmas.Int.{to_z-of_z}
use Rattle.std.proofs.lemmas.Result.{err_from_is_err_and}
use Rattle.cert_text.specs.Sums.{RoomTerms, SpellsLin}
use Rattle.text_pieces.proofs.Lifting.{unreadable_on}
use Rattle.cert_text.proofs.Rooms.{lin_fails, lin_terms_fail, lin_constant}
use Rattle.cert_text.proofs.lins.lin.Goals as goal

pub returns-in_err-count : goal.returns-in_err-count
returns-in_err-count c =
    let p = err_from_is_err_and c.from_residual.result c.from_residual.ensures.1 in
    rw (p.1, p.2) (lin_fails c.args.text.now c.in_err-count.field-0.0.left c.in_err-count.ensures)

pub returns-in_err-coefs : goal.returns-in_err-coefs
returns-in_err-coefs c =
    let p = err_from_is_err_and c.from_residual-in_err-coefs.result c.from_residual-in_err-coefs.ensures.1 in
    rw (p.1, p.2) (unreadable_on SpellsLin c.args.text.now (RoomTerms c.in_ok-count.count 0) c.in_ok-count.rest.now
    (λ left f. lin_terms_fail c.args.text.now c.in_ok-count.rest.now c.in_ok-count.count left c.in_ok-count.ensures f) c.in_err-coefs.field-0.0 c.in_err-coefs.ensures)

pub returns-in_err-constant : goal.returns-in_err-constant
returns-in_err-constant c =
    let p = err_from_is_err_and c.from_residual-in_err-constant.result c.from_residual-in_err-constant.ensures.1 in
    let lift = lin_constant c.args.text.now c.in_ok-count.rest.now c.in_ok-coefs.rest.now c.in_ok-count.count c.in_ok-coefs.coefs c.in_ok-count.ensures c.in_ok-coefs.ensures in
    rw (p.1, p.2) (lift.fails c.in_err-constant.field-0.0.left c.in_err-constant.ensures)

pub returns : goal.returns
returns c =
    let lift = lin_constant c.args.text.now c.in_ok-count.rest.now c.in_ok-coefs.rest.now c.in_ok-count.count c.in_ok-coefs.coefs c.in_ok-count.ensures c.in_ok-coefs.ensures in
    let fits : FitsSigned w128 c.in_ok-constant.constant = search rules in
    rw (to_z-of_z w128 c.in_ok-constant.constant fits) (lift.reads c.in_ok-constant.constant c.in_ok-constant.rest.now c.in_ok-constant.ensures)
