use Rattle.std.proofs.Common.{◌∙◌, sym, rules, FitsSigned}
use Rattle.std.specs.Int.{w128}
use Rattle.std.proofs.lemmas.Int.{to_z-of_z}
use Rattle.std.proofs.lemmas.Result.{err_from_is_err_and}
use Rattle.term_text.proofs.Words.{sign_fails, sign_reads, plus_fails, plus_reads}
use Rattle.term_text.proofs.operations.sign.Goals as goal

pub returns-in_err-place-in-Some : goal.returns-in_err-place-in-Some
returns-in_err-place-in-Some c =
    let p = err_from_is_err_and c.from_residual.result c.from_residual.ensures.1 in
    let number = sym c.number_of.ensures ∙ c.in-Some.is in
    rw (p.1, p.2, number) (sign_fails c.in-Some.k c.in_err-place-in-Some.ensures.reads)

pub returns-in_ok-place-in-Some : goal.returns-in_ok-place-in-Some
returns-in_ok-place-in-Some c =
    let number = sym c.number_of.ensures ∙ c.in-Some.is in
    let fits : FitsSigned w128 c.in-Some.k = search rules in
    rw (number, c.operation_at.ensures, to_z-of_z w128 c.in-Some.k fits) (sign_reads c.in-Some.k c.in_ok-place-in-Some.ensures.reads)

pub returns-in_err-exactly-in-None : goal.returns-in_err-exactly-in-None
returns-in_err-exactly-in-None c =
    let p = err_from_is_err_and c.from_residual-in_err-exactly-in-None.result c.from_residual-in_err-exactly-in-None.ensures.1 in
    let number = sym c.number_of.ensures ∙ c.in-None.is in
    rw (p.1, p.2, number) (plus_fails c.in_err-exactly-in-None.ensures)

pub returns-in_ok-exactly-in-None : goal.returns-in_ok-exactly-in-None
returns-in_ok-exactly-in-None c =
    let number = sym c.number_of.ensures ∙ c.in-None.is in
    rw number (plus_reads c.in_ok-exactly-in-None.ensures)
