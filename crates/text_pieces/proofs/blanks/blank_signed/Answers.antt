use Rattle.std.proofs.Common.{arith}
use Rattle.std.proofs.lemmas.Result.{err_from_is_err_and, MatchResult-weaker}
use Rattle.text_pieces.specs.Numbers.{Signed, Signed128}
use Rattle.text_pieces.proofs.Lifting.{no_blank, lift-blank}
use Rattle.text_pieces.proofs.Negatives.{has_one-signed}
use Rattle.text_pieces.proofs.blanks.blank_signed.Goals as goal

pub returns-in_err-blank : goal.returns-in_err-blank
returns-in_err-blank c =
    let p = err_from_is_err_and c.from_residual.result c.from_residual.ensures.1 in
    rw (p.1, p.2) (no_blank (Signed (Signed128 c.args.least)) c.args.text.now c.in_err-blank.field-0.0.left (has_one-signed c.args.least (omega (arith, c.ranges.least))) c.in_err-blank.ensures.err)

pub returns : goal.returns
returns c =
    let lift = lift-blank (Signed (Signed128 c.args.least)) c.args.text.now c.in_ok-blank.field-0.now c.in_ok-blank.ensures.ok in
    MatchResult-weaker c.signed.result c.signed.ensures (λ f r. lift.reads f.0 f.1.now r) (λ e f. lift.fails e.left f)
