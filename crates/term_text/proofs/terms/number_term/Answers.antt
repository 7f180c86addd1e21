use Rattle.std.proofs.Common.{rules, FitsSigned}
use Rattle.std.specs.Int.{w128}
use Rattle.std.proofs.lemmas.Int.{to_z-of_z}
use Rattle.std.proofs.lemmas.Result.{err_from_is_err_and}
use Rattle.text_pieces.specs.Numbers.{Signed, Signed128}
use Rattle.text_pieces.specs.Ending.{is_digit_or_bracket}
use Rattle.text_pieces.proofs.Ends.{within_digit, followed_fails, read_on}
use Rattle.text_pieces.proofs.Lifts.{lift-image, bad_within}
use Rattle.term_base.specs.declared.terms.Term.TheVariants as term
use Rattle.text_pieces.proofs.Negatives.{one_front-signed}
use Rattle.term_text.proofs.terms.number_term.Goals as goal

pub returns-in_err-n : goal.returns-in_err-n
returns-in_err-n c =
    let l0 = lift-image is_digit_or_bracket term.Num (Signed (Signed128 0)) c.args.text.now in
    let p = err_from_is_err_and c.from_residual.result c.from_residual.ensures.1 in
    rw (p.1, p.2) (l0.fails _ (bad_within within_digit c.in_err-n.ensures))

pub returns-in_err-check_end : goal.returns-in_err-check_end
returns-in_err-check_end c =
    let l0 = lift-image is_digit_or_bracket term.Num (Signed (Signed128 0)) c.args.text.now in
    let p = err_from_is_err_and c.from_residual-in_err-check_end.result c.from_residual-in_err-check_end.ensures.1 in
    rw (p.1, p.2) (l0.fails _ (followed_fails within_digit (one_front-signed 0) c.in_ok-n.ensures c.in_err-check_end.ensures.err))

pub returns : goal.returns
returns c =
    let l0 = lift-image is_digit_or_bracket term.Num (Signed (Signed128 0)) c.args.text.now in
    let fits : FitsSigned w128 c.in_ok-n.n = search rules in
    rw (to_z-of_z w128 c.in_ok-n.n fits) (l0.reads _ _ (read_on c.in_ok-n.ensures c.in_ok-check_end.ensures.ok))
