use Rattle.std.proofs.Common.{arith}
use Rattle.std.proofs.lemmas.Result.{err_from_is_err_and, MatchResult-weaker}
use Rattle.text_pieces.specs.Numbers.{Number, Word32}
use Rattle.text_pieces.proofs.Lifting.{lift-blank, no_blank}
use Rattle.text_pieces.proofs.Reaching.{has_one-number}
use Rattle.cert_text.proofs.parts.index.Goals as goal

pub returns-in_err-blank : goal.returns-in_err-blank
returns-in_err-blank c =
    let p = err_from_is_err_and c.from_residual.result c.from_residual.ensures.1 in
    rw (p.1, p.2) (no_blank (Number Word32) c.args.text.now c.in_err-blank.field-0.0.left (has_one-number Word32 0 (record { from_low = omega arith; to_high = omega arith })) c.in_err-blank.ensures.err)

pub returns : goal.returns
returns c =
    let lift = lift-blank (Number Word32) c.args.text.now c.in_ok-blank.field-0.now c.in_ok-blank.ensures.ok in
    MatchResult-weaker c.word32.result c.word32.ensures (λ f r. lift.reads f.0 f.1.now r) (λ e f. lift.fails e.left f)
