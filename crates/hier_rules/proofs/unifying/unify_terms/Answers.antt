use Rattle.std.proofs.Common.{◌≡◌, false, ◌∙◌}
use Rattle.term_base.specs.declared.variables.Variable.{Variable}
use Rattle.term_base.specs.Lits.{lits, clause_occurs}
use Rattle.term_base.specs.Substitution.{image}
use Rattle.term_base.specs.Trees.{tree, var}
use Rattle.unifier.specs.Unifiers.{occurs_either_or, IsMostGeneral, IsInImage, AreNumbered}
use Rattle.hier_rules.specs.Conclusions.{Keeps, NumbersOne}
use Rattle.hier_rules.proofs.AnswerLemmas.{of_answer}
use Rattle.hier_rules.proofs.GeneralLemmas.{one_on_clause, one_numbered, one_kept}
use Rattle.hier_rules.proofs.unifying.unify_terms.Goals as goal

pub returns-clause-some : goal.returns-clause-some
returns-clause-some c =
    let S = c.args.signature.now in
    let ls = lits c.args.c.now in
    let t = tree c.args.t.now in
    let u = tree c.args.u.now in
    let vs = c.as_slice.result.now in
    of_answer c.unify_within.result
    (λ s. IsMostGeneral S (occurs_either_or t u vs) t u (image s))
    (λ s. IsMostGeneral S (λ v. clause_occurs v ls) t u (image s))
    (λ s g. one_on_clause S ls t u vs (image s) (c.as_slice.ensures.value ∙ c.in_ok-all.ensures) g)
    c.unify_within.ensures.some

pub returns-clause-numbered : goal.returns-clause-numbered
returns-clause-numbered c =
    let ls = lits c.args.c.now in
    let t = tree c.args.t.now in
    let u = tree c.args.u.now in
    let vs = c.as_slice.result.now in
    of_answer c.unify_within.result
    (λ s. AreNumbered (IsInImage (occurs_either_or t u vs) (image s)))
    (λ s. NumbersOne ls (image s))
    (λ s n. one_numbered ls t u vs (image s) (c.as_slice.ensures.value ∙ c.in_ok-all.ensures) c.requires.first c.requires.second n)
    c.unify_within.ensures.numbered

pub returns-clause-others : goal.returns-clause-others
returns-clause-others c =
    let ls = lits c.args.c.now in
    let t = tree c.args.t.now in
    let u = tree c.args.u.now in
    let vs = c.as_slice.result.now in
    of_answer c.unify_within.result
    (λ s. (v : Variable) → occurs_either_or t u vs v ≡ false → image s v ≡ var v)
    (λ s. Keeps (λ v. clause_occurs v ls) (image s))
    (λ s h. one_kept ls t u vs (image s) (c.as_slice.ensures.value ∙ c.in_ok-all.ensures) c.requires.first c.requires.second h)
    c.unify_within.ensures.others
