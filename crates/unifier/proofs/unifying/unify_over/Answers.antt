use Rattle.std.proofs.Common.{◌≡◌, ◌∙◌, ◌<◌, sym, subst, true}
use Rattle.term_base.specs.declared.variables.Variable.{Variable}
use Rattle.term_base.specs.Substitution.{image}
use Rattle.term_base.specs.Trees.{tree}
use Rattle.unifier.specs.Sorted.{IsGeneral, NoneSorted}
use Rattle.unifier.specs.Unifiers.{occurs_or}
use Rattle.unifier.specs.Variables.{has}
use Rattle.unifier.proofs.AnswerLemmas.{of_some, of_none, pair_some, pair_none, pair_unsorted, pair_others}
use Rattle.unifier.proofs.KnownLemmas.{FoundKnown, pair_known}
use Rattle.unifier.proofs.NumberLemmas.{pair_numbered}
use Rattle.unifier.proofs.VariableLemmas.{gathered_or, gathered_or_back, gathered_tree, gathered_ascends, below_past}
use Rattle.unifier.proofs.unifying.unify_over.Goals as goal

pub answer-requires-clause-first : goal.answer-requires-clause-first
answer-requires-clause-first c = gathered_ascends (tree c.args.l.now) c.args.first.now c.as_slice-firsts.result.now (c.as_slice-firsts.ensures.value ∙ c.in_ok-first_list.ensures)

pub answer-requires-clause-second : goal.answer-requires-clause-second
answer-requires-clause-second c = gathered_ascends (tree c.args.u.now) c.args.second.now c.as_slice-seconds.result.now (c.as_slice-seconds.ensures.value ∙ c.in_ok-second_list.ensures)

pub returns-in-Some-clause-some : goal.returns-in-Some-clause-some
returns-in-Some-clause-some c =
    let firsts = c.as_slice-firsts.ensures.value ∙ c.in_ok-first_list.ensures in
    let seconds = c.as_slice-seconds.ensures.value ∙ c.in_ok-second_list.ensures in
    let S = c.args.signature.now in
    let l = tree c.args.l.now in
    let u = tree c.args.u.now in
    let below : (v : Variable) → has c.as_slice-firsts.result.now v ≡ true → v.id < c.in_ok-base.base =
    λ v i. subst (λ n. v.id < n) (sym c.in_ok-base.ensures) (below_past c.as_slice-firsts.result.now v i) in
    pair_some S l u c.as_slice-firsts.result.now c.as_slice-seconds.result.now c.in_ok-base.base
    (λ v o. gathered_tree l c.args.first.now c.as_slice-firsts.result.now v firsts o)
    (λ v o. gathered_tree u c.args.second.now c.as_slice-seconds.result.now v seconds o)
    below c.integers_without_foreground_are_background.ensures c.as_slice.result.now
    (subst (λ x. IsGeneral S l x (image c.as_slice.result.now)) c.in_ok-raised.ensures
    (subst (λ ps. IsGeneral S l (tree c.in_ok-raised.raised) (image ps)) (sym c.as_slice.ensures)
    (of_some c.in_ok-found.field-0 c.in-Some.found (λ ps. IsGeneral S l (tree c.in_ok-raised.raised) (image ps)) c.in-Some.is c.in_ok-found.ensures.general)))
    c.answer.result (occurs_or l c.args.first.now) (occurs_or u c.args.second.now)
    (λ v i. gathered_or l c.args.first.now c.as_slice-firsts.result.now v firsts i)
    (λ v i. gathered_or u c.args.second.now c.as_slice-seconds.result.now v seconds i)
    c.answer.ensures.plain c.answer.ensures.named_first c.answer.ensures.named_second

pub returns-in-Some-clause-none : goal.returns-in-Some-clause-none
returns-in-Some-clause-none c =
    let firsts = c.as_slice-firsts.ensures.value ∙ c.in_ok-first_list.ensures in
    let seconds = c.as_slice-seconds.ensures.value ∙ c.in_ok-second_list.ensures in
    let S = c.args.signature.now in
    let l = tree c.args.l.now in
    let u = tree c.args.u.now in
    let below : (v : Variable) → has c.as_slice-firsts.result.now v ≡ true → v.id < c.in_ok-base.base =
    λ v i. subst (λ n. v.id < n) (sym c.in_ok-base.ensures) (below_past c.as_slice-firsts.result.now v i) in
    pair_none S l u c.as_slice-firsts.result.now c.as_slice-seconds.result.now c.in_ok-base.base
    (λ v o. gathered_tree l c.args.first.now c.as_slice-firsts.result.now v firsts o)
    (λ v o. gathered_tree u c.args.second.now c.as_slice-seconds.result.now v seconds o)
    below c.integers_without_foreground_are_background.ensures c.as_slice.result.now
    (subst (λ x. IsGeneral S l x (image c.as_slice.result.now)) c.in_ok-raised.ensures
    (subst (λ ps. IsGeneral S l (tree c.in_ok-raised.raised) (image ps)) (sym c.as_slice.ensures)
    (of_some c.in_ok-found.field-0 c.in-Some.found (λ ps. IsGeneral S l (tree c.in_ok-raised.raised) (image ps)) c.in-Some.is c.in_ok-found.ensures.general)))
    c.answer.result c.answer.ensures.foreground

pub returns-clause-none : goal.returns-clause-none
returns-clause-none c =
    let firsts = c.as_slice-firsts.ensures.value ∙ c.in_ok-first_list.ensures in
    let seconds = c.as_slice-seconds.ensures.value ∙ c.in_ok-second_list.ensures in
    let S = c.args.signature.now in
    let l = tree c.args.l.now in
    let u = tree c.args.u.now in
    pair_unsorted S l u c.as_slice-firsts.result.now c.as_slice-seconds.result.now c.in_ok-base.base
    (λ v o. gathered_tree l c.args.first.now c.as_slice-firsts.result.now v firsts o)
    (λ v o. gathered_tree u c.args.second.now c.as_slice-seconds.result.now v seconds o)
    (λ v i. subst (λ n. v.id < n) (sym c.in_ok-base.ensures) (below_past c.as_slice-firsts.result.now v i))
    (subst (λ x. NoneSorted S l x) c.in_ok-raised.ensures
    (of_none c.in_ok-found.field-0 (NoneSorted S l (tree c.in_ok-raised.raised)) c.in-None.is c.in_ok-found.ensures.apart))

pub returns-in-Some-clause-numbered : goal.returns-in-Some-clause-numbered
returns-in-Some-clause-numbered c =
    let firsts = c.as_slice-firsts.ensures.value ∙ c.in_ok-first_list.ensures in
    let seconds = c.as_slice-seconds.ensures.value ∙ c.in_ok-second_list.ensures in
    let l = tree c.args.l.now in
    let u = tree c.args.u.now in
    pair_numbered c.answer.result c.as_slice.result.now c.in_ok-base.base c.as_slice-firsts.result.now c.as_slice-seconds.result.now
    (occurs_or l c.args.first.now) (occurs_or u c.args.second.now)
    (λ v i. gathered_or l c.args.first.now c.as_slice-firsts.result.now v firsts i)
    (λ v i. gathered_or_back l c.args.first.now c.as_slice-firsts.result.now v firsts i)
    (λ v i. gathered_or u c.args.second.now c.as_slice-seconds.result.now v seconds i)
    (λ v i. gathered_or_back u c.args.second.now c.as_slice-seconds.result.now v seconds i)
    c.answer.ensures.named_first c.answer.ensures.named_second

pub returns-in-Some-clause-others : goal.returns-in-Some-clause-others
returns-in-Some-clause-others c =
    let firsts = c.as_slice-firsts.ensures.value ∙ c.in_ok-first_list.ensures in
    let seconds = c.as_slice-seconds.ensures.value ∙ c.in_ok-second_list.ensures in
    let l = tree c.args.l.now in
    let u = tree c.args.u.now in
    pair_others c.answer.result c.as_slice.result.now c.in_ok-base.base c.as_slice-firsts.result.now c.as_slice-seconds.result.now
    (occurs_or l c.args.first.now) (occurs_or u c.args.second.now)
    (λ v i. gathered_or_back l c.args.first.now c.as_slice-firsts.result.now v firsts i)
    (λ v i. gathered_or_back u c.args.second.now c.as_slice-seconds.result.now v seconds i)
    c.answer.ensures.named_first c.answer.ensures.named_second

pub returns-in-Some-clause-known : goal.returns-in-Some-clause-known
returns-in-Some-clause-known c =
    let l = tree c.args.l.now in
    pair_known c.answer.result c.as_slice.result.now c.in_ok-base.base c.as_slice-firsts.result.now c.as_slice-seconds.result.now l (tree c.args.u.now)
    (subst (λ x. FoundKnown l x (image c.as_slice.result.now)) c.in_ok-raised.ensures
    (subst (λ ps. FoundKnown l (tree c.in_ok-raised.raised) (image ps)) (sym c.as_slice.ensures)
    (of_some c.in_ok-found.field-0 c.in-Some.found (λ ps. FoundKnown l (tree c.in_ok-raised.raised) (image ps)) c.in-Some.is c.in_ok-found.ensures.known)))
    c.answer.ensures.named_first c.answer.ensures.named_second
