use Rattle.std.proofs.Common.{arith}
use Rattle.std.proofs.lemmas.Result.{err_from_is_err_and}
use Rattle.text_pieces.specs.Languages.{Times}
use Rattle.text_pieces.proofs.Lifting.{unreadable_on}
use Rattle.text_pieces.proofs.Repeated.{read_none, read_more, read_fails, read_all}
use Rattle.text_pieces.proofs.lists.times.Goals as goal

pub loop-alloc-init : goal.loop-alloc-init
loop-alloc-init g c = λ n is. rw c.new-values.ensures (read_none g.R.Reader.spells n c.args.text.now c.requires.clear)

pub returns-in_err-next : goal.returns-in_err-next
returns-in_err-next g c = λ n is.
    let L = g.R.Reader.spells in
    let p = err_from_is_err_and c.from_residual.result c.from_residual.ensures.1 in
    rw (p.1, p.2) (unreadable_on (Times L n) c.args.text.now L c.loop-alloc.rest.now
    (λ left f. read_fails L c.requires.told_apart n c.args.text.now c.loop-alloc.values c.loop-alloc.rest.now left (omega (arith, is)) (c.loop-alloc.invariant n is) f) c.in_err-next.field-0.0 c.in_err-next.ensures)

pub loop-alloc-preserved : goal.loop-alloc-preserved
loop-alloc-preserved g c = λ n is.
    let more = read_more g.R.Reader.spells c.requires.told_apart n c.args.text.now c.loop-alloc.values c.loop-alloc.rest.now c.in_ok-next.more.now c.in_ok-next.next (omega (arith, is)) (c.loop-alloc.invariant n is) c.in_ok-next.ensures in
    let all = c.in_ok-push.ensures.ok in
    rw all more

pub returns : goal.returns
returns g c = λ n is. read_all g.R.Reader.spells n c.args.text.now c.loop-alloc.values c.loop-alloc.rest.now (omega (arith, is)) (c.loop-alloc.invariant n is)
