use Rattle.std.proofs.lemmas.Result.{err_from_is_err_and}
use Rattle.proof_text.proofs.RuleWords.{status_fails, status_reads}
use Rattle.proof_text.proofs.kinds.szs_status.Goals as goal

pub returns-in_err-place : goal.returns-in_err-place
returns-in_err-place c =
    let p = err_from_is_err_and c.from_residual.result c.from_residual.ensures.1 in
    rw (p.1, p.2) (status_fails c.in_err-place.ensures.reads)

pub returns : goal.returns
returns c = rw c.status_at.ensures (status_reads c.in_ok-place.ensures.reads)
