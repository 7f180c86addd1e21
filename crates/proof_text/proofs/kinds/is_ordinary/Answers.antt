use Rattle.std.proofs.lemmas.Result.{err_from_is_err_and}
use Rattle.proof_text.proofs.RuleWords.{variables_fails, variables_reads}
use Rattle.proof_text.proofs.kinds.is_ordinary.Goals as goal

pub returns-in_err-place : goal.returns-in_err-place
returns-in_err-place c =
    let p = err_from_is_err_and c.from_residual.result c.from_residual.ensures.1 in
    rw (p.1, p.2) (variables_fails c.in_err-place.ensures.reads)

pub returns : goal.returns
returns c = variables_reads c.in_ok-place.ensures.reads
