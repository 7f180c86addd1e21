use Rattle.std.proofs.lemmas.Result.{err_from_is_err_and}
use Rattle.text_pieces.specs.Ending.{is_digit_or_bracket}
use Rattle.text_pieces.proofs.Ends.{within_digit, followed_fails, read_on}
use Rattle.text_pieces.proofs.Lifts.{lift-image, bad_within}
use Rattle.term_text.proofs.VariableFronts.{sure-variable}
use Rattle.term_text.specs.Variables.{SpellsVariable}
use Rattle.term_base.specs.declared.terms.Term.TheVariants as term
use Rattle.term_text.proofs.terms.variable_term.Goals as goal

pub returns-in_err-v : goal.returns-in_err-v
returns-in_err-v c =
    let l0 = lift-image is_digit_or_bracket term.Var SpellsVariable c.args.text.now in
    let p = err_from_is_err_and c.from_residual.result c.from_residual.ensures.1 in
    rw (p.1, p.2) (l0.fails _ (bad_within within_digit c.in_err-v.ensures))

pub returns-in_err-check_end : goal.returns-in_err-check_end
returns-in_err-check_end c =
    let l0 = lift-image is_digit_or_bracket term.Var SpellsVariable c.args.text.now in
    let p = err_from_is_err_and c.from_residual-in_err-check_end.result c.from_residual-in_err-check_end.ensures.1 in
    rw (p.1, p.2) (l0.fails _ (followed_fails within_digit sure-variable.one c.in_ok-v.ensures c.in_err-check_end.ensures.err))

pub returns : goal.returns
returns c =
    let l0 = lift-image is_digit_or_bracket term.Var SpellsVariable c.args.text.now in
    (l0.reads _ _ (read_on c.in_ok-v.ensures c.in_ok-check_end.ensures.ok))
