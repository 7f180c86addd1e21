use Rattle.std.proofs.Common.{false, subst, append-nil}
use Rattle.std.proofs.lemmas.Result.{err_from_is_err_and}
use Rattle.text_pieces.specs.Languages.{ReadsTo}
use Rattle.text_pieces.specs.Ending.{no_byte}
use Rattle.term_text.proofs.SubstReading.{first_pair, first_unread, pair_read, pair_unread, pairs_end, pairs_open}
use Rattle.term_text.specs.Substitutions.{PairsParts}
use Rattle.term_text.proofs.substitutions.pairs.Goals as goal

pub returns-in_err-first : goal.returns-in_err-first
returns-in_err-first c =
    let p = err_from_is_err_and c.from_residual.result c.from_residual.ensures.1 in
    rw (p.1, p.2) (first_unread c.args.text.now c.in_err-first.field-0.0 c.in_err-first.ensures)

pub loop-behind-init : goal.loop-behind-init
loop-behind-init c =
    let all = c.in_ok-push.ensures.ok in
    rw (all, c.new-all.ensures) (first_pair c.in_ok-first.ensures)

pub returns-in_err-next : goal.returns-in_err-next
returns-in_err-next c =
    let p = err_from_is_err_and c.from_residual-in_err-next.result c.from_residual-in_err-next.ensures.1 in
    rw (p.1, p.2) (pair_unread c.loop-behind.invariant c.in-Some.ensures.some.0 c.in_err-next.field-0.0 c.in_err-next.ensures)

pub loop-behind-preserved : goal.loop-behind-preserved
loop-behind-preserved c =
    let more = pair_read c.loop-behind.all c.loop-behind.invariant c.in-Some.ensures.some.0 c.in_ok-next.ensures in
    let all = c.in_ok-push-2.ensures.ok in
    rw all more

pub returns-in_err-end : goal.returns-in_err-end
returns-in_err-end c =
    let p = err_from_is_err_and c.from_residual-in_err-end.result c.from_residual-in_err-end.ensures.1 in
    rw (p.1, p.2) (pairs_open c.loop-behind.invariant c.in_default.ensures.none c.in_err-end.ensures.err)

pub returns : goal.returns
returns c = subst (λ z. ReadsTo no_byte (PairsParts false) c.args.text.now z c.in_ok-end.end.now) (append-nil c.loop-behind.all) (pairs_end c.loop-behind.invariant c.in_default.ensures.none c.in_ok-end.ensures.ok)
