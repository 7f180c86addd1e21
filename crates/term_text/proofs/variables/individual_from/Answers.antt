use Rattle.std.proofs.Common.{subst}
use Rattle.std.specs.Prelude.{codes}
use Rattle.std.proofs.lemmas.Result.{err_from_is_err_and}
use Rattle.text_pieces.specs.Numbers.{Number, Within}
use Rattle.text_pieces.specs.Fronts.{Front}
use Rattle.text_pieces.specs.Languages.{Fails, Reads}
use Rattle.term_text.proofs.VariableWindows.{individual_in, no_individual, is_individual}
use Rattle.term_text.proofs.variables.individual_from.Goals as goal

pub returns-then-low-ge-INTEGERS : goal.returns-then-low-ge-INTEGERS
returns-then-low-ge-INTEGERS c = no_individual c.args.low c.args.text.now c.requires.low c.if-low-ge-INTEGERS.true c.requires.kind

pub returns-in_err-id : goal.returns-in_err-id
returns-in_err-id c =
    let l0 = individual_in c.args.low c.args.text.now c.requires.kind in
    let p = err_from_is_err_and c.from_residual.result c.from_residual.ensures.1 in
    rw (p.1, p.2) (l0.fails _ (subst (λ z. Fails (Front (codes "I") (Number (Within z 4294967295))) c.args.text.now c.in_err-id.field-0.0.left) c.saturating_sub.ensures c.in_err-id.ensures))

pub returns : goal.returns
returns c =
    let l0 = individual_in c.args.low c.args.text.now c.requires.kind in
    let e = c.ordinary.ensures in
    rw (is_individual c.ordinary.result c.in_ok-id.id e.kind e.sort e.id) (l0.reads _ _ (subst (λ z. Reads (Front (codes "I") (Number (Within z 4294967295))) c.args.text.now c.in_ok-id.id c.in_ok-id.rest.now) c.saturating_sub.ensures c.in_ok-id.ensures))
