use Rattle.std.proofs.lemmas.Result.{err_from_is_err_and}
use Rattle.text_pieces.specs.Separated.{Separated}
use Rattle.text_pieces.proofs.Lifting.{unreadable_on}
use Rattle.text_pieces.proofs.Tails.{separated-fails, separated-first, separated-more, separated-read, tail-fails, tail-ends}
use Rattle.text_pieces.proofs.lists.separated.Goals as goal

pub returns-in_err-first : goal.returns-in_err-first
returns-in_err-first g c =
    let L = g.R.Reader.spells in
    let q = c.requires in
    let p = err_from_is_err_and c.from_residual.result c.from_residual.ensures.1 in
    rw (p.1, p.2) (unreadable_on (Separated L c.args.between c.args.end) c.args.text.now L c.args.text.now
    (λ left f. separated-fails L c.requires.told_apart c.args.between c.args.end q.between q.end q.apart c.args.text.now left f) c.in_err-first.field-0.0 c.in_err-first.ensures)

pub loop-behind-init : goal.loop-behind-init
loop-behind-init g c =
    let L = g.R.Reader.spells in
    let q = c.requires in
    let first = separated-first L c.requires.told_apart c.args.between c.args.end q.between q.end q.apart c.args.text.now c.in_ok-first.rest.now c.in_ok-first.first c.in_ok-first.ensures in
    let all = c.in_ok-push.ensures.ok in
    rw (all, c.new-values.ensures) first

pub returns-in_err-next : goal.returns-in_err-next
returns-in_err-next g c =
    let L = g.R.Reader.spells in
    let q = c.requires in
    let p = err_from_is_err_and c.from_residual-in_err-next.result c.from_residual-in_err-next.ensures.1 in
    rw (p.1, p.2) (unreadable_on (Separated L c.args.between c.args.end) c.args.text.now L c.in-Some.behind.now
    (λ left f. c.loop-behind.invariant.fails left (tail-fails L c.requires.told_apart c.args.between c.args.end q.between q.end q.apart c.loop-behind.rest.now c.in-Some.behind.now left c.in-Some.ensures.some f))
    c.in_err-next.field-0.0 c.in_err-next.ensures)

pub loop-behind-preserved : goal.loop-behind-preserved
loop-behind-preserved g c =
    let L = g.R.Reader.spells in
    let q = c.requires in
    let more = separated-more L c.requires.told_apart c.args.between c.args.end q.between q.end q.apart c.args.text.now c.loop-behind.rest.now c.in-Some.behind.now c.in_ok-next.more.now c.loop-behind.values c.in_ok-next.next
    c.loop-behind.invariant c.in-Some.ensures.some c.in_ok-next.ensures in
    let all = c.in_ok-push-2.ensures.ok in
    rw all more

pub returns-in_err-last : goal.returns-in_err-last
returns-in_err-last g c =
    let L = g.R.Reader.spells in
    let q = c.requires in
    let p = err_from_is_err_and c.from_residual-in_err-last.result c.from_residual-in_err-last.ensures.1 in
    let left = c.in_err-last.field-0.0.left in
    rw (p.1, p.2) (c.loop-behind.invariant.fails left (tail-ends L c.requires.told_apart c.args.between c.args.end q.between q.end q.apart c.loop-behind.rest.now left c.in_default.ensures.none c.in_err-last.ensures))

pub returns : goal.returns
returns g c =
    let L = g.R.Reader.spells in
    let q = c.requires in
    separated-read L c.requires.told_apart c.args.between c.args.end q.between q.end q.apart c.args.text.now c.loop-behind.rest.now c.in_ok-last.last.now c.loop-behind.values c.loop-behind.invariant c.in_ok-last.ensures
