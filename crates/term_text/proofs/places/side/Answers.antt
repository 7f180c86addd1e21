use Rattle.std.proofs.lemmas.Result.{err_from_is_err_and}
use Rattle.term_text.proofs.Words.{side_fails, side_reads}
use Rattle.term_text.proofs.places.side.Goals as goal

pub returns-in_err-place : goal.returns-in_err-place
returns-in_err-place c =
    let p = err_from_is_err_and c.from_residual.result c.from_residual.ensures.1 in
    rw (p.1, p.2) (side_fails c.in_err-place.ensures.reads)

pub returns : goal.returns
returns c = rw c.side_at.ensures (side_reads c.in_ok-place.ensures.reads)
