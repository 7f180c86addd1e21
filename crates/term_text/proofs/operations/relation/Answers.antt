use Rattle.std.proofs.lemmas.Result.{err_from_is_err_and}
use Rattle.term_text.proofs.Words.{relation_fails, relation_reads}
use Rattle.term_text.proofs.operations.relation.Goals as goal

pub returns-in_err-place : goal.returns-in_err-place
returns-in_err-place c =
    let p = err_from_is_err_and c.from_residual.result c.from_residual.ensures.1 in
    rw (p.1, p.2) (relation_fails c.in_err-place.ensures.reads)

pub returns : goal.returns
returns c = rw c.relation_at.ensures (relation_reads c.in_ok-place.ensures.reads)
