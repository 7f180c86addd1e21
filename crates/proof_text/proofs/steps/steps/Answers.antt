use Rattle.std.proofs.Common.{◌∙◌, sym, subst, append-nil, length}
use Rattle.std.proofs.lemmas.Result.{err_from_is_err_and}
use Rattle.text_pieces.specs.Languages.{ReadsTo}
use Rattle.text_pieces.specs.Ending.{no_byte}
use Rattle.text_pieces.specs.Failing.{UnreadTo}
use Rattle.proof_text.specs.Derivations.{StepLine, StepLines}
use Rattle.proof_text.proofs.StepFronts.{step_none, step_read, one_step_more, step_unread, steps_end, steps_open}
use Rattle.proof_text.proofs.steps.steps.Goals as goal

pub loop-alloc-init : goal.loop-alloc-init
loop-alloc-init c = rw c.new-steps.ensures (step_none c.args.text.now)

pub returns-in_err-next : goal.returns-in_err-next
returns-in_err-next c =
    let p = err_from_is_err_and c.from_residual.result c.from_residual.ensures.1 in
    rw (p.1, p.2) (step_unread (length c.loop-alloc.steps) c.loop-alloc.steps c.loop-alloc.invariant (sym c.is_step.ensures ∙ c.loop-alloc-test.true) c.in_err-next.field-0.0 (subst (λ k. UnreadTo no_byte (StepLine k) c.loop-alloc.rest.now c.in_err-next.field-0.0) c.len.ensures c.in_err-next.ensures))

pub loop-alloc-preserved : goal.loop-alloc-preserved
loop-alloc-preserved c =
    let more = step_read (length c.loop-alloc.steps) c.loop-alloc.steps c.loop-alloc.invariant (sym c.is_step.ensures ∙ c.loop-alloc-test.true) (subst (λ k. ReadsTo no_byte (StepLine k) c.loop-alloc.rest.now c.in_ok-next.next c.in_ok-next.more.now) c.len.ensures c.in_ok-next.ensures) in
    let all = c.in_ok-push.ensures.ok in
    rw all (one_step_more c.loop-alloc.steps c.in_ok-next.next more)

pub returns-in_err-last : goal.returns-in_err-last
returns-in_err-last c =
    let p = err_from_is_err_and c.from_residual-in_err-last.result c.from_residual-in_err-last.ensures.1 in
    rw (p.1, p.2) (steps_open (length c.loop-alloc.steps) c.loop-alloc.steps c.loop-alloc.invariant (sym c.is_step.ensures ∙ c.loop-alloc-test.false) c.in_err-last.ensures.err)

pub returns : goal.returns
returns c =
    subst (λ z. ReadsTo no_byte (StepLines 0) c.args.text.now z c.in_ok-last.last.now) (append-nil c.loop-alloc.steps)
    (steps_end (length c.loop-alloc.steps) c.loop-alloc.steps c.loop-alloc.invariant (sym c.is_step.ensures ∙ c.loop-alloc-test.false) c.in_ok-last.ensures.ok)
