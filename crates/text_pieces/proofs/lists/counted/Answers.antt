use Rattle.std.proofs.lemmas.Result.{err_from_is_err_and, MatchResult-weaker}
use Rattle.text_pieces.proofs.Chains.{last_unread}
use Rattle.text_pieces.proofs.Repeated.{counted-fails, counted-count}
use Rattle.text_pieces.proofs.lists.counted.Goals as goal

pub returns-in_err-count : goal.returns-in_err-count
returns-in_err-count g c =
    let p = err_from_is_err_and c.from_residual.result c.from_residual.ensures.1 in
    rw (p.1, p.2) (counted-fails g.R.Reader.spells c.requires c.args.text.now c.in_err-count.field-0.0.left c.in_err-count.ensures)

pub returns : goal.returns
returns g c =
    let r = c.in_ok-count.ensures in
    let lift = counted-count g.R.Reader.spells c.requires r.number c.args.text.now c.in_ok-count.rest.now r.reads in
    MatchResult-weaker c.times.result (c.times.ensures r.number r.is) (λ f h. lift.reads f.0 f.1.now h) (λ e h. last_unread lift e h)
