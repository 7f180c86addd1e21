use Rattle.std.proofs.Common.{◌≡◌, ◌∙◌, ℕ, true, ap, sym, subst}
use Rattle.std.specs.Option.{option_copied}
use Rattle.term_base.specs.declared.places.Side.TheVariants.{Left, Right}
use Rattle.term_base.specs.Known.{is_known, is_known_clause, KnownImages}
use Rattle.term_base.specs.Lits.{Lit, lit, lits, clause_occurs}
use Rattle.term_base.specs.Substitution.{image}
use Rattle.term_base.specs.Trees.{tree, occurs}
use Rattle.unifier.specs.Unifiers.{IsMostGeneral, NoUnifier}
use Rattle.hier_rules.specs.Conclusions.{Keeps, NumbersOne}
use Rattle.hier_rules.specs.Heads.{heads_meet}
use Rattle.hier_rules.specs.Premises.{IsDisequation}
use Rattle.hier_rules.proofs.AnswerLemmas.{of_answer}
use Rattle.hier_rules.proofs.OccurrenceLemmas.{side_occurs}
use Rattle.hier_rules.proofs.OptionLemmas.{if_some, if_none}
use Rattle.hier_rules.proofs.PremiseLemmas.{resolvable, unifies_sides}
use Rattle.hier_rules.proofs.RefusalLemmas.{resolution_without_disequation, resolution_of_heads, resolution_of_background}
use Rattle.hier_rules.proofs.ResolveLemmas.{resolution_apart}
use Rattle.hier_rules.proofs.SymbolLemmas.{sides_known}
use Rattle.hier_rules.proofs.resolving.resolution.Goals as goal

pub returns-in-None-clause-conclusion : goal.returns-in-None-clause-conclusion
returns-in-None-clause-conclusion c =
    resolution_without_disequation c.args.signature.now (lits c.args.c.now) c.args.literal
    (if_none (option_copied c.disequation_at.result) ((l : Lit) → IsDisequation (lits c.args.c.now) c.args.literal l → ⊥) (ap option_copied c.in-None.is) c.disequation_at.ensures.none)

pub returns-then-not-heads_meet-clause-conclusion : goal.returns-then-not-heads_meet-clause-conclusion
returns-then-not-heads_meet-clause-conclusion c =
    let l = lit c.in-Some.l.now in
    resolution_of_heads c.args.signature.now (lits c.args.c.now) c.args.literal l
    (if_some (option_copied c.disequation_at.result) c.in-Some.l.now (λ z. IsDisequation (lits c.args.c.now) c.args.literal (lit z)) (ap option_copied c.in-Some.is) c.disequation_at.ensures.some)
    (ap (λ z. heads_meet z l.right) (sym c.side_of.ensures) ∙ ap (heads_meet (tree c.side_of.result.now)) (sym c.side_of-2.ensures) ∙ sym c.heads_meet.ensures ∙ c.if-not-heads_meet.true)

pub returns-then-is_background-clause-conclusion : goal.returns-then-is_background-clause-conclusion
returns-then-is_background-clause-conclusion c =
    resolution_of_background c.args.signature.now (lits c.args.c.now) c.args.literal (sym c.is_background.ensures ∙ c.if-is_background.true)

pub unify_terms-requires-clause-first : goal.unify_terms-requires-clause-first
unify_terms-requires-clause-first c v o =
    let from = if_some (option_copied c.disequation_at.result) c.in-Some.l.now (λ l. IsDisequation (lits c.args.c.now) c.args.literal (lit l)) (ap option_copied c.in-Some.is) c.disequation_at.ensures.some in
    side_occurs v c.args.literal (lits c.args.c.now) (lit c.in-Some.l.now) Left from.there (ap (occurs v) (sym c.side_of-3.ensures) ∙ o)

pub unify_terms-requires-clause-second : goal.unify_terms-requires-clause-second
unify_terms-requires-clause-second c v o =
    let from = if_some (option_copied c.disequation_at.result) c.in-Some.l.now (λ l. IsDisequation (lits c.args.c.now) c.args.literal (lit l)) (ap option_copied c.in-Some.is) c.disequation_at.ensures.some in
    side_occurs v c.args.literal (lits c.args.c.now) (lit c.in-Some.l.now) Right from.there (ap (occurs v) (sym c.side_of-4.ensures) ∙ o)

pub resolution_by-requires : goal.resolution_by-requires
resolution_by-requires c =
    let S = c.args.signature.now in
    let ls = lits c.args.c.now in
    let l = lit c.in-Some.l.now in
    let s = c.in-Some-2.s in
    unifies_sides S ls c.args.literal l (sym c.is_background.ensures ∙ c.if-is_background.false)
    (if_some (option_copied c.disequation_at.result) c.in-Some.l.now (λ z. IsDisequation ls c.args.literal (lit z)) (ap option_copied c.in-Some.is) c.disequation_at.ensures.some)
    (image s)
    (subst (λ z. IsMostGeneral S (λ v. clause_occurs v ls) z l.right (image s)) c.side_of-3.ensures
    (subst (λ z. IsMostGeneral S (λ v. clause_occurs v ls) (tree c.side_of-3.result.now) z (image s)) c.side_of-4.ensures
    (if_some c.in_ok-s.field-0 s (λ z. IsMostGeneral S (λ v. clause_occurs v ls) (tree c.side_of-3.result.now) (tree c.side_of-4.result.now) (image z))
    c.in-Some-2.is c.in_ok-s.ensures.some)))

pub returns-in-Some-2-clause-numbered : goal.returns-in-Some-2-clause-numbered
returns-in-Some-2-clause-numbered c =
    let ls = lits c.args.c.now in
    let s = c.in-Some-2.s in
    of_answer c.resolution_by.result (λ f. f.s1 ≡ s) (λ f. NumbersOne ls (image f.s1))
    (λ f e. subst (λ z. NumbersOne ls (image z)) (sym e)
    (if_some c.in_ok-s.field-0 s (λ z. NumbersOne ls (image z)) c.in-Some-2.is c.in_ok-s.ensures.numbered))
    c.resolution_by.ensures.substitution

pub returns-in-Some-2-clause-others : goal.returns-in-Some-2-clause-others
returns-in-Some-2-clause-others c =
    let ls = lits c.args.c.now in
    let s = c.in-Some-2.s in
    of_answer c.resolution_by.result (λ f. f.s1 ≡ s) (λ f. Keeps (λ v. clause_occurs v ls) (image f.s1))
    (λ f e. subst (λ z. Keeps (λ v. clause_occurs v ls) (image z)) (sym e)
    (if_some c.in_ok-s.field-0 s (λ z. Keeps (λ v. clause_occurs v ls) (image z)) c.in-Some-2.is c.in_ok-s.ensures.others))
    c.resolution_by.ensures.substitution

pub returns-in-Some-2-clause-known : goal.returns-in-Some-2-clause-known
returns-in-Some-2-clause-known c =
    let ls = lits c.args.c.now in
    let s = c.in-Some-2.s in
    let l = lit c.in-Some.l.now in
    let x = tree c.side_of-3.result.now in
    let y = tree c.side_of-4.result.now in
    let from = if_some (option_copied c.disequation_at.result) c.in-Some.l.now (λ z. IsDisequation ls c.args.literal (lit z)) (ap option_copied c.in-Some.is) c.disequation_at.ensures.some in
    let found = if_some c.in_ok-s.field-0 s (λ z. (n : ℕ) → is_known n x ≡ true → is_known n y ≡ true → KnownImages n (image z)) c.in-Some-2.is c.in_ok-s.ensures.known in
    of_answer c.resolution_by.result (λ f. f.s1 ≡ s) (λ f. (n : ℕ) → is_known_clause n ls ≡ true → KnownImages n (image f.s1))
    (λ f e. subst (λ z. (n : ℕ) → is_known_clause n ls ≡ true → KnownImages n (image z)) (sym e)
    (sides_known ls c.args.literal c.args.literal Left Right l l x y from.there c.side_of-3.ensures from.there c.side_of-4.ensures (image s) found))
    c.resolution_by.ensures.substitution

pub returns-in-None-2-clause-conclusion : goal.returns-in-None-2-clause-conclusion
returns-in-None-2-clause-conclusion c =
    let S = c.args.signature.now in
    let ls = lits c.args.c.now in
    let l = lit c.in-Some.l.now in
    let from = if_some (option_copied c.disequation_at.result) c.in-Some.l.now (λ z. IsDisequation ls c.args.literal (lit z)) (ap option_copied c.in-Some.is) c.disequation_at.ensures.some in
    let apart = resolution_apart S ls c.args.literal l (resolvable S ls c.args.literal l (sym c.is_background.ensures ∙ c.if-is_background.false) from)
    (subst (λ z. NoUnifier S z l.right) c.side_of-3.ensures
    (subst (λ z. NoUnifier S (tree c.side_of-3.result.now) z) c.side_of-4.ensures
    (if_none c.in_ok-s.field-0 (NoUnifier S (tree c.side_of-3.result.now) (tree c.side_of-4.result.now)) c.in-None-2.is c.in_ok-s.ensures.none))) in
    λ r1 r2 e simple1 simple2 f. apart r1 r2 e simple1 simple2 f
