use Rattle.std.proofs.Common.{◌≡◌, length, sym, ap, ◌∙◌, subst}
use Rattle.term_base.specs.declared.preparation.Prepared.{Prepared}
use Rattle.normal_form.specs.Clauses.{AreWellSorted}
use Rattle.normal_form.specs.Known.{HasKnownSymbols}
use Rattle.normal_form.proofs.Counted.{clauses_counted}
use Rattle.normal_form.proofs.Known.{known_symbols}
use Rattle.normal_form.proofs.Typed.{well_sorted}
use Rattle.normal_form.proofs.preparing.clauses.Goals as goal

pub returns-clause-well_sorted : goal.returns-clause-well_sorted
returns-clause-well_sorted c = λ typed. subst AreWellSorted (sym c.in_ok-prepared.ensures) (well_sorted c.args.problem.now c.args.ordinary typed)

pub returns-clause-known : goal.returns-clause-known
returns-clause-known c = λ typed. subst HasKnownSymbols (sym c.in_ok-prepared.ensures) (known_symbols c.args.problem.now c.args.ordinary typed)

pub returns-clause-counted : goal.returns-clause-counted
returns-clause-counted c = ap (λ (q : Prepared). length q.clauses) c.in_ok-prepared.ensures ∙ clauses_counted c.args.problem.now c.args.ordinary
