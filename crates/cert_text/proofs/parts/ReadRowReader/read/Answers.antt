use Rattle.std.proofs.lemmas.Result.{err_from_is_err_and, MatchResult-weaker}
use Rattle.cert_text.specs.Grammar.{SpellsRow}
use Rattle.text_pieces.proofs.Lifting.{lift-blank, no_blank}
use Rattle.text_pieces.proofs.Chains.{last_unread}
use Rattle.cert_text.proofs.ToldApart.{unambiguous-row}
use Rattle.cert_text.proofs.parts.ReadRowReader.read.Goals as goal

pub returns-in_err-blank : goal.returns-in_err-blank
returns-in_err-blank c =
    let p = err_from_is_err_and c.from_residual.result c.from_residual.ensures.1 in
    rw (p.1, p.2) (no_blank SpellsRow c.args.text.now c.in_err-blank.field-0.0.left unambiguous-row.some c.in_err-blank.ensures.err)

pub returns : goal.returns
returns c =
    let lift = lift-blank SpellsRow c.args.text.now c.in_ok-blank.field-0.now c.in_ok-blank.ensures.ok in
    MatchResult-weaker c.row.result c.row.ensures (λ f r. lift.reads f.0 f.1.now r) (λ e f. last_unread lift e f)
