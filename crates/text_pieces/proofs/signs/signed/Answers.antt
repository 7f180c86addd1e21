use Rattle.std.proofs.Common.{◌∙◌}
use Rattle.std.proofs.lemmas.Result.{err_from_is_err_and}
use Rattle.text_pieces.proofs.Negatives.{minus_fails, plain_fails}
use Rattle.text_pieces.proofs.signs.signed.Goals as goal

pub returns-in_err-distance : goal.returns-in_err-distance
returns-in_err-distance c =
    let p = err_from_is_err_and c.from_residual.result c.from_residual.ensures.1 in
    rw (p.1, p.2) (minus_fails c.args.least c.args.text.now c.in-Some.digits.now c.in_err-distance.field-0.0.left c.in-Some.ensures.some (rw (c.from.ensures ∙ c.max.ensures) at c.in_err-distance.ensures))

pub returns-in_err-value : goal.returns-in_err-value
returns-in_err-value c =
    let p = err_from_is_err_and c.from_residual-in_err-value.result c.from_residual-in_err-value.ensures.1 in
    rw (p.1, p.2) (plain_fails c.args.least c.args.text.now c.in_err-value.field-0.0.left c.in_default.ensures.none (rw c.from-2.ensures at c.in_err-value.ensures))
