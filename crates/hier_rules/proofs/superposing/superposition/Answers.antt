use Rattle.std.proofs.Common.{◌≡◌, ◌∙◌, ℕ, true, ap, sym, subst}
use Rattle.std.specs.Prelude.{option_map}
use Rattle.std.specs.Option.{option_copied}
use Rattle.term_base.specs.Known.{is_known, KnownImages}
use Rattle.term_base.specs.Lits.{Lit, lit, lits, clause_occurs}
use Rattle.term_base.specs.Substitution.{image}
use Rattle.term_base.specs.Trees.{tree, occurs}
use Rattle.unifier.specs.Unifiers.{IsMostGeneralPair, NoPair}
use Rattle.hier_rules.specs.Conclusions.{KeepsPair, KnownPair, NumbersPair}
use Rattle.hier_rules.specs.Heads.{heads_meet}
use Rattle.hier_rules.specs.Premises.{IsEquation}
use Rattle.hier_rules.proofs.AnswerLemmas.{of_answer}
use Rattle.hier_rules.proofs.OccurrenceLemmas.{side_occurs, place_occurs}
use Rattle.hier_rules.proofs.OptionLemmas.{if_some, if_none}
use Rattle.hier_rules.proofs.PremiseLemmas.{a_variable, superposable, unifies_pair}
use Rattle.hier_rules.proofs.RefusalLemmas.{superposition_without_equation, superposition_without_place, superposition_at_variable, superposition_of_heads, superposition_from_background, superposition_into_background}
use Rattle.hier_rules.proofs.SuperposeLemmas.{superposition_apart}
use Rattle.hier_rules.proofs.SymbolLemmas.{superposition_known}
use Rattle.hier_rules.proofs.superposing.superposition.Goals as goal

pub returns-in-None-clause-conclusion : goal.returns-in-None-clause-conclusion
returns-in-None-clause-conclusion c =
    superposition_without_equation c.args.signature.now (lits c.args.c.now) (lits c.args.d.now) c.args.literal c.args.side c.args.place.now
    (if_none (option_copied c.equation_at.result) ((l : Lit) → IsEquation (lits c.args.c.now) c.args.literal l → ⊥) (ap option_copied c.in-None.is) c.equation_at.ensures.none)

pub returns-in-None-place_term-clause-conclusion : goal.returns-in-None-place_term-clause-conclusion
returns-in-None-place_term-clause-conclusion c =
    superposition_without_place c.args.signature.now (lits c.args.c.now) (lits c.args.d.now) c.args.literal c.args.side c.args.place.now
    (sym c.place_term.ensures ∙ ap (λ o. option_map tree (option_copied o)) c.in-None-place_term.is)

pub returns-then-is_variable-clause-conclusion : goal.returns-then-is_variable-clause-conclusion
returns-then-is_variable-clause-conclusion c =
    let u = tree c.in-Some-place_term.u.now in
    let v = a_variable u (sym c.is_variable.ensures ∙ c.if-is_variable.true) in
    superposition_at_variable c.args.signature.now (lits c.args.c.now) (lits c.args.d.now) c.args.literal c.args.side c.args.place.now u v.0
    (sym c.place_term.ensures ∙ ap (λ o. option_map tree (option_copied o)) c.in-Some-place_term.is) v.1

pub returns-then-not-heads_meet-clause-conclusion : goal.returns-then-not-heads_meet-clause-conclusion
returns-then-not-heads_meet-clause-conclusion c =
    let u = tree c.in-Some-place_term.u.now in
    superposition_of_heads c.args.signature.now (lits c.args.c.now) (lits c.args.d.now) c.args.literal c.args.side c.args.place.now (lit c.in-Some.l.now) u
    (if_some (option_copied c.equation_at.result) c.in-Some.l.now (λ z. IsEquation (lits c.args.c.now) c.args.literal (lit z)) (ap option_copied c.in-Some.is) c.equation_at.ensures.some)
    (sym c.place_term.ensures ∙ ap (λ o. option_map tree (option_copied o)) c.in-Some-place_term.is)
    (ap (λ z. heads_meet z u) (sym c.side_of.ensures) ∙ sym c.heads_meet.ensures ∙ c.if-not-heads_meet.true)

pub returns-then-is_background-clause-conclusion : goal.returns-then-is_background-clause-conclusion
returns-then-is_background-clause-conclusion c =
    superposition_from_background c.args.signature.now (lits c.args.c.now) (lits c.args.d.now) c.args.literal c.args.side c.args.place.now
    (sym c.is_background.ensures ∙ c.if-is_background.true)

pub returns-then-is_background-2-clause-conclusion : goal.returns-then-is_background-2-clause-conclusion
returns-then-is_background-2-clause-conclusion c =
    superposition_into_background c.args.signature.now (lits c.args.c.now) (lits c.args.d.now) c.args.literal c.args.side c.args.place.now
    (sym c.is_background-2.ensures ∙ c.if-is_background-2.true)

pub unify_premises-requires-clause-first : goal.unify_premises-requires-clause-first
unify_premises-requires-clause-first c v o =
    let from = if_some (option_copied c.equation_at.result) c.in-Some.l.now (λ l. IsEquation (lits c.args.c.now) c.args.literal (lit l)) (ap option_copied c.in-Some.is) c.equation_at.ensures.some in
    side_occurs v c.args.literal (lits c.args.c.now) (lit c.in-Some.l.now) c.args.side from.there (ap (occurs v) (sym c.side_of-2.ensures) ∙ o)

pub unify_premises-requires-clause-second : goal.unify_premises-requires-clause-second
unify_premises-requires-clause-second c v o =
    place_occurs v (lits c.args.d.now) c.args.place.now (tree c.in-Some-place_term.u.now)
    (sym c.place_term.ensures ∙ ap (λ o. option_map tree (option_copied o)) c.in-Some-place_term.is) o

pub superposition_by-requires : goal.superposition_by-requires
superposition_by-requires c =
    let S = c.args.signature.now in
    let ls = lits c.args.c.now in
    let ms = lits c.args.d.now in
    let l = lit c.in-Some.l.now in
    let u = tree c.in-Some-place_term.u.now in
    unifies_pair S ls ms c.args.literal c.args.side c.args.place.now l u
    (sym c.is_background.ensures ∙ c.if-is_background.false)
    (sym c.is_background-2.ensures ∙ c.if-is_background-2.false)
    (if_some (option_copied c.equation_at.result) c.in-Some.l.now (λ z. IsEquation ls c.args.literal (lit z)) (ap option_copied c.in-Some.is) c.equation_at.ensures.some)
    (sym c.place_term.ensures ∙ ap (λ o. option_map tree (option_copied o)) c.in-Some-place_term.is)
    (sym c.is_variable.ensures ∙ c.if-is_variable.false)
    (image c.in-Some-2.s1) (image c.in-Some-2.s2)
    (subst (λ z. IsMostGeneralPair S (λ v. clause_occurs v ls) (λ v. clause_occurs v ms) z u (image c.in-Some-2.s1) (image c.in-Some-2.s2)) c.side_of-2.ensures
    (if_some c.in_ok-s1.field-0 (c.in-Some-2.s1, c.in-Some-2.s2)
    (λ p. IsMostGeneralPair S (λ v. clause_occurs v ls) (λ v. clause_occurs v ms) (tree c.side_of-2.result.now) u (image p.0) (image p.1))
    c.in-Some-2.is c.in_ok-s1.ensures.some))

pub returns-in-Some-2-clause-numbered : goal.returns-in-Some-2-clause-numbered
returns-in-Some-2-clause-numbered c =
    let ls = lits c.args.c.now in
    let ms = lits c.args.d.now in
    let s1 = c.in-Some-2.s1 in
    let s2 = c.in-Some-2.s2 in
    let numbered = if_some c.in_ok-s1.field-0 (s1, s2) (λ p. NumbersPair ls ms (image p.0) (image p.1)) c.in-Some-2.is c.in_ok-s1.ensures.numbered in
    of_answer c.superposition_by.result (λ f. (f.s1 ≡ s1) × (f.s2 ≡ s2)) (λ f. NumbersPair ls ms (image f.s1) (image f.s2))
    (λ f e. subst (λ z. NumbersPair ls ms (image z) (image f.s2)) (sym e.0) (subst (λ z. NumbersPair ls ms (image s1) (image z)) (sym e.1) numbered))
    c.superposition_by.ensures.substitutions

pub returns-in-Some-2-clause-others : goal.returns-in-Some-2-clause-others
returns-in-Some-2-clause-others c =
    let ls = lits c.args.c.now in
    let ms = lits c.args.d.now in
    let s1 = c.in-Some-2.s1 in
    let s2 = c.in-Some-2.s2 in
    let kept = if_some c.in_ok-s1.field-0 (s1, s2) (λ p. KeepsPair ls ms (image p.0) (image p.1)) c.in-Some-2.is c.in_ok-s1.ensures.others in
    of_answer c.superposition_by.result (λ f. (f.s1 ≡ s1) × (f.s2 ≡ s2)) (λ f. KeepsPair ls ms (image f.s1) (image f.s2))
    (λ f e. subst (λ z. KeepsPair ls ms (image z) (image f.s2)) (sym e.0) (subst (λ z. KeepsPair ls ms (image s1) (image z)) (sym e.1) kept))
    c.superposition_by.ensures.substitutions

pub returns-in-Some-2-clause-known : goal.returns-in-Some-2-clause-known
returns-in-Some-2-clause-known c =
    let ls = lits c.args.c.now in
    let ms = lits c.args.d.now in
    let s1 = c.in-Some-2.s1 in
    let s2 = c.in-Some-2.s2 in
    let l = lit c.in-Some.l.now in
    let x = tree c.side_of-2.result.now in
    let u = tree c.in-Some-place_term.u.now in
    let from = if_some (option_copied c.equation_at.result) c.in-Some.l.now (λ z. IsEquation ls c.args.literal (lit z)) (ap option_copied c.in-Some.is) c.equation_at.ensures.some in
    let found = if_some c.in_ok-s1.field-0 (s1, s2) (λ p. (n : ℕ) → is_known n x ≡ true → is_known n u ≡ true → KnownImages n (image p.0) × KnownImages n (image p.1)) c.in-Some-2.is c.in_ok-s1.ensures.known in
    let kept = superposition_known ls ms c.args.literal c.args.side c.args.place.now l x u from.there c.side_of-2.ensures
    (sym c.place_term.ensures ∙ ap (λ o. option_map tree (option_copied o)) c.in-Some-place_term.is) (image s1) (image s2) found in
    of_answer c.superposition_by.result (λ f. (f.s1 ≡ s1) × (f.s2 ≡ s2)) (λ f. KnownPair ls ms (image f.s1) (image f.s2))
    (λ f e. subst (λ z. KnownPair ls ms (image z) (image f.s2)) (sym e.0) (subst (λ z. KnownPair ls ms (image s1) (image z)) (sym e.1) kept))
    c.superposition_by.ensures.substitutions

pub returns-in-None-2-clause-conclusion : goal.returns-in-None-2-clause-conclusion
returns-in-None-2-clause-conclusion c =
    let S = c.args.signature.now in
    let ls = lits c.args.c.now in
    let ms = lits c.args.d.now in
    let l = lit c.in-Some.l.now in
    let u = tree c.in-Some-place_term.u.now in
    let from = if_some (option_copied c.equation_at.result) c.in-Some.l.now (λ z. IsEquation ls c.args.literal (lit z)) (ap option_copied c.in-Some.is) c.equation_at.ensures.some in
    let p = superposable S ls ms c.args.literal c.args.side c.args.place.now l u
    (sym c.is_background.ensures ∙ c.if-is_background.false)
    (sym c.is_background-2.ensures ∙ c.if-is_background-2.false)
    from (sym c.place_term.ensures ∙ ap (λ o. option_map tree (option_copied o)) c.in-Some-place_term.is)
    (sym c.is_variable.ensures ∙ c.if-is_variable.false) in
    superposition_apart S ls ms c.args.literal c.args.side c.args.place.now l _ u p
    (subst (λ z. NoPair S z u) c.side_of-2.ensures
    (if_none c.in_ok-s1.field-0 (NoPair S (tree c.side_of-2.result.now) u) c.in-None-2.is c.in_ok-s1.ensures.none))
