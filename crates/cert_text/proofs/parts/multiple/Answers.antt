use Rattle.std.proofs.Common.{rules, FitsSigned}
use Rattle.std.specs.Int.{w128}
use Rattle.std.proofs.lemmas.Int.{to_z-of_z}
use Rattle.std.proofs.lemmas.Result.{err_from_is_err_and}
use Rattle.cert_text.specs.Grammar.{Multiple}
use Rattle.text_pieces.proofs.Lifting.{lift-self}
use Rattle.text_pieces.proofs.Chains.{read_next, next_fails}
use Rattle.cert_text.proofs.ToldApart.{unambiguous-index, unambiguous-whole}
use Rattle.cert_text.proofs.parts.multiple.Goals as goal

pub returns-in_err-fact : goal.returns-in_err-fact
returns-in_err-fact c =
    let l0 = lift-self Multiple c.args.text.now in
    let p = err_from_is_err_and c.from_residual.result c.from_residual.ensures.1 in
    rw (p.1, p.2) (next_fails l0 (λ v. unambiguous-whole) c.in_err-fact.ensures)

pub returns-in_err-k : goal.returns-in_err-k
returns-in_err-k c =
    let l0 = lift-self Multiple c.args.text.now in
    let l1 = read_next l0 unambiguous-index (λ v. unambiguous-whole) c.in_ok-fact.ensures in
    let p = err_from_is_err_and c.from_residual-in_err-k.result c.from_residual-in_err-k.ensures.1 in
    rw (p.1, p.2) (l1.fails c.in_err-k.field-0.0.left c.in_err-k.ensures)

pub returns : goal.returns
returns c =
    let l0 = lift-self Multiple c.args.text.now in
    let l1 = read_next l0 unambiguous-index (λ v. unambiguous-whole) c.in_ok-fact.ensures in
    let fits : FitsSigned w128 c.in_ok-k.k = search rules in
    rw (to_z-of_z w128 c.in_ok-k.k fits) (l1.reads c.in_ok-k.k c.in_ok-k.rest.now c.in_ok-k.ensures)
