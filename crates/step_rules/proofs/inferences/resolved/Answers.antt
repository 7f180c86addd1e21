use Rattle.std.proofs.Common.{sym, ◌∙◌, ap}
use Rattle.std.specs.Prelude.{Some}
use Rattle.term_base.specs.Trees.{tree}
use Rattle.term_base.specs.Lits.{lits}
use Rattle.term_base.specs.Substitution.{image}
use Rattle.step_rules.proofs.Conclusions.{resolved-other, resolved-there}
use Rattle.step_rules.proofs.inferences.resolved.Goals as goal

pub returns-then-not-branch : goal.returns-then-not-branch
returns-then-not-branch c =
    sym
    (resolved-other (lits c.args.c.now) c.args.literal (image c.args.s1.now) (tree c.in-Some.s.now) (tree c.in-Some.t.now) c.in-Some.ensures
    (sym c.in_ok-same_under-in-Some.ensures ∙ c.if-not-branch.true))

pub returns-in_ok-literals-in-Some : goal.returns-in_ok-literals-in-Some
returns-in_ok-literals-in-Some c =
    ap Some c.in_ok-literals-in-Some.ensures
    ∙ sym
    (resolved-there (lits c.args.c.now) c.args.literal (image c.args.s1.now) (tree c.in-Some.s.now) (tree c.in-Some.t.now) c.in-Some.ensures
    (sym c.in_ok-same_under-in-Some.ensures ∙ c.if-not-branch.false))
