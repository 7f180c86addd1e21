use Rattle.std.proofs.Common.{subst, append-nil}
use Rattle.std.proofs.lemmas.Result.{err_from_is_err_and}
use Rattle.text_pieces.specs.Languages.{ReadsTo}
use Rattle.text_pieces.specs.Ending.{no_byte}
use Rattle.term_text.proofs.PlaceReading.{step_none, step_read, step_fails, path_end, path_open}
use Rattle.term_text.specs.Places.{SpellsPath}
use Rattle.term_text.proofs.places.path.Goals as goal

pub loop-behind-init : goal.loop-behind-init
loop-behind-init c = rw c.new-steps.ensures (step_none c.args.text.now)

pub returns-in_err-next : goal.returns-in_err-next
returns-in_err-next c =
    let p = err_from_is_err_and c.from_residual.result c.from_residual.ensures.1 in
    rw (p.1, p.2) (step_fails c.loop-behind.steps c.loop-behind.invariant c.in-Some.ensures.some c.in_err-next.ensures)

pub loop-behind-preserved : goal.loop-behind-preserved
loop-behind-preserved c =
    let more = step_read c.loop-behind.steps c.loop-behind.invariant c.in-Some.ensures.some c.in_ok-next.ensures in
    let all = c.in_ok-push.ensures.ok in
    rw all more

pub returns-in_err-last : goal.returns-in_err-last
returns-in_err-last c =
    let p = err_from_is_err_and c.from_residual-in_err-last.result c.from_residual-in_err-last.ensures.1 in
    rw (p.1, p.2) (path_open c.loop-behind.steps c.loop-behind.invariant c.in_default.ensures.none c.in_err-last.ensures.err)

pub returns : goal.returns
returns c = subst (λ z. ReadsTo no_byte SpellsPath c.args.text.now z c.in_ok-last.last.now) (append-nil c.loop-behind.steps) (path_end c.loop-behind.steps c.loop-behind.invariant c.in_default.ensures.none c.in_ok-last.ensures.ok)
