use Rattle.std.proofs.lemmas.Result.{err_from_is_err_and}
use Rattle.std.proofs.Common.{sym, subst}
use Rattle.text_pieces.specs.Languages.{Reads}
use Rattle.cert_text.specs.Grammar.{NodeWord}
use Rattle.cert_text.proofs.Kinded.{node_word_fails, node_word_reads}
use Rattle.cert_text.proofs.kinds.node_kind.Goals as goal

pub returns-in_err-place : goal.returns-in_err-place
returns-in_err-place c =
    let p = err_from_is_err_and c.from_residual.result c.from_residual.ensures.1 in
    rw (p.1, p.2) (node_word_fails c.args.text.now c.in_err-place.field-0.0.left c.in_err-place.ensures.reads)

pub returns : goal.returns
returns c =
    subst (λ kind. Reads NodeWord c.args.text.now kind c.in_ok-place.rest.now) (sym c.node_kind_at.ensures)
    (node_word_reads c.args.text.now c.in_ok-place.place c.in_ok-place.rest.now c.in_ok-place.ensures.reads)
