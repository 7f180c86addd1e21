use Rattle.std.proofs.lemmas.Result.{err_from_is_err_and}
use Rattle.cert_text.proofs.Rooms.{terms_more, terms_fail, terms_all}
use Rattle.cert_text.proofs.lins.terms.Goals as goal

pub returns-in_err-next : goal.returns-in_err-next
returns-in_err-next c =
    let p = err_from_is_err_and c.from_residual.result c.from_residual.ensures.1 in
    rw (p.1, p.2) (terms_fail c.args.count c.args.text.now c.loop-left.terms c.loop-left.low c.loop-left.left c.loop-left.rest.now c.in_err-next.field-0.0.left c.loop-left-test.true c.loop-left.invariant c.in_err-next.ensures)

pub loop-left-preserved : goal.loop-left-preserved
loop-left-preserved c =
    let more = terms_more c.args.count c.args.text.now c.loop-left.terms c.loop-left.low c.loop-left.left c.loop-left.rest.now c.in_ok-next.more.now c.in_ok-next.next c.loop-left-test.true c.loop-left.invariant c.in_ok-next.ensures in
    let low = c.from-low.ensures in
    let all = c.in_ok-push.ensures.ok in
    rw (low, all) more

pub returns : goal.returns
returns c = terms_all c.args.count c.args.text.now c.loop-left.terms c.loop-left.low c.loop-left.left c.loop-left.rest.now c.loop-left-test.false c.loop-left.invariant
