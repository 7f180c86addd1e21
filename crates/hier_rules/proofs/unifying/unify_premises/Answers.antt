use Rattle.std.proofs.Common.{◌≡◌, ◌⊎◌, false, ◌∙◌}
use Rattle.term_base.specs.declared.variables.Variable.{Variable}
use Rattle.term_base.specs.Lits.{lits, clause_occurs}
use Rattle.term_base.specs.Substitution.{image}
use Rattle.term_base.specs.Trees.{tree, var}
use Rattle.unifier.specs.Unifiers.{occurs_or, IsMostGeneralPair, IsInImage, AreNumbered}
use Rattle.hier_rules.specs.Conclusions.{KeepsPair, NumbersPair}
use Rattle.hier_rules.proofs.AnswerLemmas.{of_answer}
use Rattle.hier_rules.proofs.GeneralLemmas.{pair_on_clauses, pair_numbered, pair_kept}
use Rattle.hier_rules.proofs.unifying.unify_premises.Goals as goal

pub returns-clause-some : goal.returns-clause-some
returns-clause-some c =
    let S = c.args.signature.now in
    let ls = lits c.args.c.now in
    let ms = lits c.args.d.now in
    let t = tree c.args.t.now in
    let u = tree c.args.u.now in
    let vs = c.as_slice.result.now in
    let ws = c.as_slice-2.result.now in
    of_answer c.unify_over.result
    (λ p. IsMostGeneralPair S (occurs_or t vs) (occurs_or u ws) t u (image p.0) (image p.1))
    (λ p. IsMostGeneralPair S (λ v. clause_occurs v ls) (λ v. clause_occurs v ms) t u (image p.0) (image p.1))
    (λ p g. pair_on_clauses S ls ms t u vs ws (image p.0) (image p.1) (c.as_slice.ensures.value ∙ c.in_ok-first.ensures) (c.as_slice-2.ensures.value ∙ c.in_ok-second.ensures) g)
    c.unify_over.ensures.some

pub returns-clause-numbered : goal.returns-clause-numbered
returns-clause-numbered c =
    let ls = lits c.args.c.now in
    let ms = lits c.args.d.now in
    let t = tree c.args.t.now in
    let u = tree c.args.u.now in
    let vs = c.as_slice.result.now in
    let ws = c.as_slice-2.result.now in
    of_answer c.unify_over.result
    (λ p. AreNumbered (λ z. IsInImage (occurs_or t vs) (image p.0) z ⊎ IsInImage (occurs_or u ws) (image p.1) z))
    (λ p. NumbersPair ls ms (image p.0) (image p.1))
    (λ p n. pair_numbered ls ms t u vs ws (image p.0) (image p.1) (c.as_slice.ensures.value ∙ c.in_ok-first.ensures) (c.as_slice-2.ensures.value ∙ c.in_ok-second.ensures)
    c.requires.first c.requires.second n)
    c.unify_over.ensures.numbered

pub returns-clause-others : goal.returns-clause-others
returns-clause-others c =
    let ls = lits c.args.c.now in
    let ms = lits c.args.d.now in
    let t = tree c.args.t.now in
    let u = tree c.args.u.now in
    let vs = c.as_slice.result.now in
    let ws = c.as_slice-2.result.now in
    of_answer c.unify_over.result
    (λ p. ((v : Variable) → occurs_or t vs v ≡ false → image p.0 v ≡ var v) × ((v : Variable) → occurs_or u ws v ≡ false → image p.1 v ≡ var v))
    (λ p. KeepsPair ls ms (image p.0) (image p.1))
    (λ p h. pair_kept ls ms t u vs ws (image p.0) (image p.1) (c.as_slice.ensures.value ∙ c.in_ok-first.ensures) (c.as_slice-2.ensures.value ∙ c.in_ok-second.ensures)
    c.requires.first c.requires.second h)
    c.unify_over.ensures.others
