use Rattle.std.proofs.lemmas.Result.{err_from_is_err_and}
use Rattle.text_pieces.specs.Decimals.{is_digit}
use Rattle.text_pieces.proofs.Lifts.{lift-image}
use Rattle.proof_text.specs.Rules.{Index}
use Rattle.proof_steps.specs.declared.steps.Rule.TheVariants as rule
use Rattle.proof_text.proofs.rules.abstraction.Goals as goal

pub returns-in_err-of : goal.returns-in_err-of
returns-in_err-of c =
    let l0 = lift-image is_digit rule.Abstract (Index) c.args.text.now in
    let p = err_from_is_err_and c.from_residual.result c.from_residual.ensures.1 in
    rw (p.1, p.2) (l0.fails _ c.in_err-of.ensures)

pub returns : goal.returns
returns c =
    let l0 = lift-image is_digit rule.Abstract (Index) c.args.text.now in
    l0.reads _ _ c.in_ok-of.ensures
