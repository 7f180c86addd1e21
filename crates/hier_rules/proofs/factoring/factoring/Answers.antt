use Rattle.std.proofs.Common.{◌≡◌, ◌∙◌, ℕ, true, ap, sym, subst}
use Rattle.std.specs.Option.{option_copied}
use Rattle.term_base.specs.Known.{is_known, is_known_clause, KnownImages}
use Rattle.term_base.specs.Lits.{Lit, lit, lits, clause_occurs}
use Rattle.term_base.specs.Places.{named}
use Rattle.term_base.specs.Substitution.{image}
use Rattle.term_base.specs.Trees.{tree, occurs}
use Rattle.unifier.specs.Unifiers.{IsMostGeneral, NoUnifier}
use Rattle.hier_rules.specs.Conclusions.{Keeps, NumbersOne}
use Rattle.hier_rules.specs.Heads.{heads_meet}
use Rattle.hier_rules.specs.Premises.{IsEquation}
use Rattle.hier_rules.proofs.AnswerLemmas.{of_answer}
use Rattle.hier_rules.proofs.OccurrenceLemmas.{side_occurs}
use Rattle.hier_rules.proofs.OptionLemmas.{if_some, if_none}
use Rattle.hier_rules.proofs.PremiseLemmas.{factorable, unifies_equations}
use Rattle.hier_rules.proofs.RefusalLemmas.{factoring_without_first, factoring_without_second, factoring_of_one, factoring_of_heads, factoring_of_background}
use Rattle.hier_rules.proofs.ResolveLemmas.{factoring_apart}
use Rattle.hier_rules.proofs.SymbolLemmas.{sides_known}
use Rattle.hier_rules.proofs.factoring.factoring.Goals as goal

pub returns-in-None-clause-conclusion : goal.returns-in-None-clause-conclusion
returns-in-None-clause-conclusion c =
    factoring_without_first c.args.signature.now (lits c.args.c.now) c.args.first c.args.first_side c.args.second c.args.second_side
    (if_none (option_copied c.equation_at.result) ((l : Lit) → IsEquation (lits c.args.c.now) c.args.first l → ⊥) (ap option_copied c.in-None.is) c.equation_at.ensures.none)

pub returns-in-None-equation_at-clause-conclusion : goal.returns-in-None-equation_at-clause-conclusion
returns-in-None-equation_at-clause-conclusion c =
    factoring_without_second c.args.signature.now (lits c.args.c.now) c.args.first c.args.first_side c.args.second c.args.second_side
    (if_none (option_copied c.equation_at-2.result) ((l : Lit) → IsEquation (lits c.args.c.now) c.args.second l → ⊥) (ap option_copied c.in-None-equation_at.is) c.equation_at-2.ensures.none)

pub returns-then-first-second-clause-conclusion : goal.returns-then-first-second-clause-conclusion
returns-then-first-second-clause-conclusion c =
    factoring_of_one c.args.signature.now (lits c.args.c.now) c.args.first c.args.first_side c.args.second c.args.second_side c.if-first-second.true

pub returns-then-not-heads_meet-clause-conclusion : goal.returns-then-not-heads_meet-clause-conclusion
returns-then-not-heads_meet-clause-conclusion c =
    let l = lit c.in-Some.l.now in
    let m = lit c.in-Some-equation_at.m.now in
    factoring_of_heads c.args.signature.now (lits c.args.c.now) c.args.first c.args.first_side c.args.second c.args.second_side l m
    (if_some (option_copied c.equation_at.result) c.in-Some.l.now (λ z. IsEquation (lits c.args.c.now) c.args.first (lit z)) (ap option_copied c.in-Some.is) c.equation_at.ensures.some)
    (if_some (option_copied c.equation_at-2.result) c.in-Some-equation_at.m.now (λ z. IsEquation (lits c.args.c.now) c.args.second (lit z)) (ap option_copied c.in-Some-equation_at.is) c.equation_at-2.ensures.some)
    (ap (λ z. heads_meet z (named c.args.second_side m)) (sym c.side_of.ensures) ∙ ap (heads_meet (tree c.side_of.result.now)) (sym c.side_of-2.ensures) ∙ sym c.heads_meet.ensures ∙ c.if-not-heads_meet.true)

pub returns-then-is_background-clause-conclusion : goal.returns-then-is_background-clause-conclusion
returns-then-is_background-clause-conclusion c =
    factoring_of_background c.args.signature.now (lits c.args.c.now) c.args.first c.args.first_side c.args.second c.args.second_side (sym c.is_background.ensures ∙ c.if-is_background.true)

pub unify_terms-requires-clause-first : goal.unify_terms-requires-clause-first
unify_terms-requires-clause-first c v o =
    let from = if_some (option_copied c.equation_at.result) c.in-Some.l.now (λ l. IsEquation (lits c.args.c.now) c.args.first (lit l)) (ap option_copied c.in-Some.is) c.equation_at.ensures.some in
    side_occurs v c.args.first (lits c.args.c.now) (lit c.in-Some.l.now) c.args.first_side from.there (ap (occurs v) (sym c.side_of-3.ensures) ∙ o)

pub unify_terms-requires-clause-second : goal.unify_terms-requires-clause-second
unify_terms-requires-clause-second c v o =
    let into = if_some (option_copied c.equation_at-2.result) c.in-Some-equation_at.m.now (λ m. IsEquation (lits c.args.c.now) c.args.second (lit m)) (ap option_copied c.in-Some-equation_at.is) c.equation_at-2.ensures.some in
    side_occurs v c.args.second (lits c.args.c.now) (lit c.in-Some-equation_at.m.now) c.args.second_side into.there (ap (occurs v) (sym c.side_of-4.ensures) ∙ o)

pub factoring_by-requires : goal.factoring_by-requires
factoring_by-requires c =
    let S = c.args.signature.now in
    let ls = lits c.args.c.now in
    let l = lit c.in-Some.l.now in
    let m = lit c.in-Some-equation_at.m.now in
    let s = c.in-Some-2.s in
    unifies_equations S ls c.args.first c.args.first_side c.args.second c.args.second_side l m
    (sym c.is_background.ensures ∙ c.if-is_background.false)
    (if_some (option_copied c.equation_at.result) c.in-Some.l.now (λ z. IsEquation ls c.args.first (lit z)) (ap option_copied c.in-Some.is) c.equation_at.ensures.some)
    (if_some (option_copied c.equation_at-2.result) c.in-Some-equation_at.m.now (λ z. IsEquation ls c.args.second (lit z)) (ap option_copied c.in-Some-equation_at.is) c.equation_at-2.ensures.some)
    c.if-first-second.false (image s)
    (subst (λ z. IsMostGeneral S (λ v. clause_occurs v ls) z (named c.args.second_side m) (image s)) c.side_of-3.ensures
    (subst (λ z. IsMostGeneral S (λ v. clause_occurs v ls) (tree c.side_of-3.result.now) z (image s)) c.side_of-4.ensures
    (if_some c.in_ok-s.field-0 s (λ z. IsMostGeneral S (λ v. clause_occurs v ls) (tree c.side_of-3.result.now) (tree c.side_of-4.result.now) (image z))
    c.in-Some-2.is c.in_ok-s.ensures.some)))

pub returns-in-Some-2-clause-numbered : goal.returns-in-Some-2-clause-numbered
returns-in-Some-2-clause-numbered c =
    let ls = lits c.args.c.now in
    let s = c.in-Some-2.s in
    of_answer c.factoring_by.result (λ f. f.s1 ≡ s) (λ f. NumbersOne ls (image f.s1))
    (λ f e. subst (λ z. NumbersOne ls (image z)) (sym e)
    (if_some c.in_ok-s.field-0 s (λ z. NumbersOne ls (image z)) c.in-Some-2.is c.in_ok-s.ensures.numbered))
    c.factoring_by.ensures.substitution

pub returns-in-Some-2-clause-others : goal.returns-in-Some-2-clause-others
returns-in-Some-2-clause-others c =
    let ls = lits c.args.c.now in
    let s = c.in-Some-2.s in
    of_answer c.factoring_by.result (λ f. f.s1 ≡ s) (λ f. Keeps (λ v. clause_occurs v ls) (image f.s1))
    (λ f e. subst (λ z. Keeps (λ v. clause_occurs v ls) (image z)) (sym e)
    (if_some c.in_ok-s.field-0 s (λ z. Keeps (λ v. clause_occurs v ls) (image z)) c.in-Some-2.is c.in_ok-s.ensures.others))
    c.factoring_by.ensures.substitution

pub returns-in-Some-2-clause-known : goal.returns-in-Some-2-clause-known
returns-in-Some-2-clause-known c =
    let ls = lits c.args.c.now in
    let s = c.in-Some-2.s in
    let l = lit c.in-Some.l.now in
    let m = lit c.in-Some-equation_at.m.now in
    let x = tree c.side_of-3.result.now in
    let y = tree c.side_of-4.result.now in
    let from = if_some (option_copied c.equation_at.result) c.in-Some.l.now (λ z. IsEquation ls c.args.first (lit z)) (ap option_copied c.in-Some.is) c.equation_at.ensures.some in
    let into = if_some (option_copied c.equation_at-2.result) c.in-Some-equation_at.m.now (λ z. IsEquation ls c.args.second (lit z)) (ap option_copied c.in-Some-equation_at.is) c.equation_at-2.ensures.some in
    let found = if_some c.in_ok-s.field-0 s (λ z. (n : ℕ) → is_known n x ≡ true → is_known n y ≡ true → KnownImages n (image z)) c.in-Some-2.is c.in_ok-s.ensures.known in
    of_answer c.factoring_by.result (λ f. f.s1 ≡ s) (λ f. (n : ℕ) → is_known_clause n ls ≡ true → KnownImages n (image f.s1))
    (λ f e. subst (λ z. (n : ℕ) → is_known_clause n ls ≡ true → KnownImages n (image z)) (sym e)
    (sides_known ls c.args.first c.args.second c.args.first_side c.args.second_side l m x y from.there c.side_of-3.ensures into.there c.side_of-4.ensures (image s) found))
    c.factoring_by.ensures.substitution

pub returns-in-None-2-clause-conclusion : goal.returns-in-None-2-clause-conclusion
returns-in-None-2-clause-conclusion c =
    let S = c.args.signature.now in
    let ls = lits c.args.c.now in
    let l = lit c.in-Some.l.now in
    let m = lit c.in-Some-equation_at.m.now in
    let p = factorable S ls c.args.first c.args.first_side c.args.second c.args.second_side l m
    (sym c.is_background.ensures ∙ c.if-is_background.false)
    (if_some (option_copied c.equation_at.result) c.in-Some.l.now (λ z. IsEquation ls c.args.first (lit z)) (ap option_copied c.in-Some.is) c.equation_at.ensures.some)
    (if_some (option_copied c.equation_at-2.result) c.in-Some-equation_at.m.now (λ z. IsEquation ls c.args.second (lit z)) (ap option_copied c.in-Some-equation_at.is) c.equation_at-2.ensures.some)
    c.if-first-second.false in
    let apart = factoring_apart S ls c.args.first c.args.first_side c.args.second c.args.second_side l m p
    (subst (λ z. NoUnifier S z (named c.args.second_side m)) c.side_of-3.ensures
    (subst (λ z. NoUnifier S (tree c.side_of-3.result.now) z) c.side_of-4.ensures
    (if_none c.in_ok-s.field-0 (NoUnifier S (tree c.side_of-3.result.now) (tree c.side_of-4.result.now)) c.in-None-2.is c.in_ok-s.ensures.none))) in
    λ r1 r2 e simple1 simple2 f. apart r1 r2 e simple1 simple2 f
