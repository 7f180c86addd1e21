use Rattle.std.proofs.Common.{◌∙◌, sym}
use Rattle.std.proofs.lemmas.Result.{err_from_is_err_and}
use Rattle.term_base.specs.declared.terms.Term.TheVariants as term
use Rattle.term_text.proofs.OtherTerms.{read_other, unread_other, read_itself}
use Rattle.term_base.specs.SameTerm.{same_term-true}
use Rattle.term_text.proofs.substitutions.unlike.Goals as goal

pub returns-in_err-t : goal.returns-in_err-t
returns-in_err-t c =
    let p = err_from_is_err_and c.from_residual.result c.from_residual.ensures.1 in
    rw (p.1, p.2) (unread_other c.args.v c.requires.numbered c.requires.open c.in_err-t.field-0.0 c.in_err-t.ensures)

pub returns-then-eq : goal.returns-then-eq
returns-then-eq c = read_itself c.args.v c.requires.numbered c.requires.open c.in_ok-t.ensures (same_term-true c.in_ok-t.t (term.Var c.args.v) (sym c.eq.ensures ∙ c.if-eq.true))

pub returns : goal.returns
returns c = read_other c.args.v c.requires.numbered c.in_ok-t.ensures (sym c.eq.ensures ∙ c.if-eq.false)
