use Rattle.std.proofs.lemmas.Result.{err_from_is_err_and, MatchResult-weaker}
use Rattle.text_pieces.specs.Numbers.{Number, Any}
use Rattle.text_pieces.proofs.Lifting.{lift-blank, no_blank}
use Rattle.text_pieces.proofs.Reaching.{has_one-number}
use Rattle.text_pieces.proofs.blanks.blank_count.Goals as goal

pub returns-in_err-blank : goal.returns-in_err-blank
returns-in_err-blank c =
    let p = err_from_is_err_and c.from_residual.result c.from_residual.ensures.1 in
    rw (p.1, p.2) (no_blank (Number Any) c.args.text.now c.in_err-blank.field-0.0.left (has_one-number Any 0 tt) c.in_err-blank.ensures.err)

pub returns : goal.returns
returns c =
    let lift = lift-blank (Number Any) c.args.text.now c.in_ok-blank.field-0.now c.in_ok-blank.ensures.ok in
    MatchResult-weaker c.count.result c.count.ensures (λ f r. record { number = r.number; is = r.is; reads = lift.reads r.number f.1.now r.reads }) (λ e f. lift.fails e.left f)
