use Rattle.std.proofs.Common.{sym, ◌∙◌, ap}
use Rattle.std.specs.Prelude.{Some}
use Rattle.term_base.specs.Trees.{tree}
use Rattle.term_base.specs.Lits.{lits}
use Rattle.term_base.specs.Substitution.{image}
use Rattle.step_rules.proofs.Conclusions.{factored-other, factored-there}
use Rattle.step_rules.proofs.inferences.factored_by.Goals as goal

pub returns-then-not-branch : goal.returns-then-not-branch
returns-then-not-branch c =
    sym
    (factored-other (lits c.args.c.now) c.args.first c.args.first_side c.args.second c.args.second_side (image c.args.s1.now)
    (tree c.in-Some.l.now) (tree c.in-Some.r.now) c.in-Some.ensures (tree c.in-Some-equation_at.s.now) (tree c.in-Some-equation_at.t.now) c.in-Some-equation_at.ensures
    (sym c.in_ok-same_under-in-Some-equation_at.ensures ∙ c.if-not-branch.true))

pub returns-in_ok-factored_clause-in-Some-equation_at : goal.returns-in_ok-factored_clause-in-Some-equation_at
returns-in_ok-factored_clause-in-Some-equation_at c =
    ap Some c.in_ok-factored_clause-in-Some-equation_at.ensures
    ∙ sym
    (factored-there (lits c.args.c.now) c.args.first c.args.first_side c.args.second c.args.second_side (image c.args.s1.now)
    (tree c.in-Some.l.now) (tree c.in-Some.r.now) c.in-Some.ensures (tree c.in-Some-equation_at.s.now) (tree c.in-Some-equation_at.t.now) c.in-Some-equation_at.ensures
    (sym c.in_ok-same_under-in-Some-equation_at.ensures ∙ c.if-not-branch.false))
