use Rattle.std.proofs.Common.{◌≡◌, ◌∙◌, sym, subst, true}
use Rattle.term_base.specs.declared.variables.Variable.{Variable}
use Rattle.term_base.specs.Substitution.{image}
use Rattle.term_base.specs.Trees.{tree, occurs}
use Rattle.term_base.specs.TreeLemmas.{or-left, or-right}
use Rattle.unifier.specs.Sorted.{IsGeneral, NoneSorted}
use Rattle.unifier.specs.Unifiers.{occurs_or, occurs_either_or}
use Rattle.unifier.specs.Variables.{has}
use Rattle.unifier.proofs.AnswerLemmas.{of_some, of_none, one_some, one_none, one_unsorted, one_others}
use Rattle.unifier.proofs.KnownLemmas.{FoundKnown, one_known}
use Rattle.unifier.proofs.NumberLemmas.{one_numbered}
use Rattle.unifier.proofs.VariableLemmas.{gathered_both_or, gathered_both_back, gathered_both_ascends}
use Rattle.unifier.proofs.unifying.unify_within.Goals as goal

pub within-requires : goal.within-requires
within-requires c = gathered_both_ascends (tree c.args.l.now) (tree c.args.u.now) c.args.others.now c.as_slice-in-Some.result.now (c.as_slice-in-Some.ensures.value ∙ c.in_ok-list.ensures)

pub returns-in-Some-clause-some : goal.returns-in-Some-clause-some
returns-in-Some-clause-some c =
    let list = c.as_slice-in-Some.ensures.value ∙ c.in_ok-list.ensures in
    let S = c.args.signature.now in
    let l = tree c.args.l.now in
    let u = tree c.args.u.now in
    let all : (v : Variable) → occurs_either_or l u c.args.others.now v ≡ true → has c.as_slice-in-Some.result.now v ≡ true =
    λ v i. gathered_both_or l u c.args.others.now c.as_slice-in-Some.result.now v list i in
    one_some c.integers_without_foreground_are_background.ensures S l u c.as_slice-in-Some.result.now c.as_slice.result.now
    (λ v o. all v (or-left (occurs v l) (occurs_or u c.args.others.now v) o))
    (λ v o. all v (or-right (occurs v l) (occurs_or u c.args.others.now v) (or-left (occurs v u) (has c.args.others.now v) o)))
    (subst (λ ps. IsGeneral S l u (image ps)) (sym c.as_slice.ensures)
    (of_some c.in_ok-found.field-0 c.in-Some.found (λ ps. IsGeneral S l u (image ps)) c.in-Some.is c.in_ok-found.ensures.general))
    c.within.result (occurs_either_or l u c.args.others.now) all c.within.ensures.plain c.within.ensures.named

pub returns-in-Some-clause-none : goal.returns-in-Some-clause-none
returns-in-Some-clause-none c =
    let list = c.as_slice-in-Some.ensures.value ∙ c.in_ok-list.ensures in
    let S = c.args.signature.now in
    let l = tree c.args.l.now in
    let u = tree c.args.u.now in
    let all : (v : Variable) → occurs_either_or l u c.args.others.now v ≡ true → has c.as_slice-in-Some.result.now v ≡ true =
    λ v i. gathered_both_or l u c.args.others.now c.as_slice-in-Some.result.now v list i in
    one_none c.integers_without_foreground_are_background.ensures S l u c.as_slice-in-Some.result.now c.as_slice.result.now
    (λ v o. all v (or-left (occurs v l) (occurs_or u c.args.others.now v) o))
    (λ v o. all v (or-right (occurs v l) (occurs_or u c.args.others.now v) (or-left (occurs v u) (has c.args.others.now v) o)))
    (subst (λ ps. IsGeneral S l u (image ps)) (sym c.as_slice.ensures)
    (of_some c.in_ok-found.field-0 c.in-Some.found (λ ps. IsGeneral S l u (image ps)) c.in-Some.is c.in_ok-found.ensures.general))
    c.within.result c.within.ensures.foreground

pub returns-clause-none : goal.returns-clause-none
returns-clause-none c = one_unsorted c.args.signature.now (tree c.args.l.now) (tree c.args.u.now)
    (of_none c.in_ok-found.field-0 (NoneSorted c.args.signature.now (tree c.args.l.now) (tree c.args.u.now)) c.in-None.is c.in_ok-found.ensures.apart)

pub returns-in-Some-clause-numbered : goal.returns-in-Some-clause-numbered
returns-in-Some-clause-numbered c =
    let list = c.as_slice-in-Some.ensures.value ∙ c.in_ok-list.ensures in
    let l = tree c.args.l.now in
    let u = tree c.args.u.now in
    one_numbered c.within.result c.as_slice.result.now c.as_slice-in-Some.result.now (occurs_either_or l u c.args.others.now)
    (λ v i. gathered_both_or l u c.args.others.now c.as_slice-in-Some.result.now v list i)
    (λ v i. gathered_both_back l u c.args.others.now c.as_slice-in-Some.result.now v list i)
    c.within.ensures.named

pub returns-in-Some-clause-others : goal.returns-in-Some-clause-others
returns-in-Some-clause-others c =
    let list = c.as_slice-in-Some.ensures.value ∙ c.in_ok-list.ensures in
    let l = tree c.args.l.now in
    let u = tree c.args.u.now in
    one_others c.within.result c.as_slice.result.now c.as_slice-in-Some.result.now (occurs_either_or l u c.args.others.now)
    (λ v i. gathered_both_back l u c.args.others.now c.as_slice-in-Some.result.now v list i)
    c.within.ensures.named

pub returns-in-Some-clause-known : goal.returns-in-Some-clause-known
returns-in-Some-clause-known c =
    let l = tree c.args.l.now in
    let u = tree c.args.u.now in
    one_known c.within.result c.as_slice.result.now c.as_slice-in-Some.result.now l u
    (subst (λ ps. FoundKnown l u (image ps)) (sym c.as_slice.ensures)
    (of_some c.in_ok-found.field-0 c.in-Some.found (λ ps. FoundKnown l u (image ps)) c.in-Some.is c.in_ok-found.ensures.known))
    c.within.ensures.named
