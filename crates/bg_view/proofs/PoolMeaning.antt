-- The pool of a view is true where the clauses are.
use Rattle.std.specs.Prelude.{◌≡◌, ◌↔◌, ℕ, ◌+◌, ◌-◌, ◌≤◌, Bool, true, false, not, cond, nat_lt, ◌||◌, List, [], ◌∷◌, ◌++◌, length, IsTrue, if◌then◌else◌}
use Rattle.std.specs.List.{list_any, AllByRecursion}
use Rattle.std.proofs.Common.{refl, sym, ◌∙◌, ap, subst, arith, inl, inr}
use Rattle.std.proofs.lemmas.Bool.Decides.{nat_tests}
use Rattle.term_base.specs.declared.variables.Variable.{Variable}
use Rattle.term_base.specs.declared.clauses.Literal.{Literal}
use Rattle.term_base.specs.declared.clauses.Clause.{Clause}
use Rattle.term_base.specs.TreeLemmas.{or-false}
use Rattle.lin_base.specs.Sum.{Valuation}
use Rattle.lin_base.specs.Fact.{holds, AgreeBelow, ClauseHoldsAt, HoldsAt}
use Rattle.bg_view.specs.Unknowns.{Numbering, rank, place, ascending, symbols_in_literal, symbols_in_literals, symbols_in_clauses, symbols_of, variables_in_literal, variables_in_literals, variables_of}
use Rattle.bg_view.specs.View.{negated_view, negated_facts, clause_numbering, clause_facts, clauses_facts, view, target_numbering, entail_params, entail_symbols, entail_view}
use Rattle.bg_view.specs.Truth.{Symbols, Variables, literal_holds, clause_holds, IsTrueAt, AreTrueAt, GivesSymbols, GivesTarget, value_at}
use Rattle.bg_view.proofs.Each.{Each, each_left, each_right, each_map, each_all, all_left, all_right, all_join}
use Rattle.bg_view.proofs.Ascending.{Member, Rising, rank_at, rising_ascending, ascending-keeps}
use Rattle.bg_view.proofs.Places.{has, value_at-place, place-bound, all_noted-has}
use Rattle.bg_view.proofs.Agreement.{literal_agrees, literals_agree}
use Rattle.bg_view.proofs.Meaning.{at_symbols, at_variables, negated_means, literals_mean}

-- each is a member
pub each_member : (P : ℕ → Type 0) (xs : List ℕ) → ((z : ℕ) → Member z xs → P z) → Each P xs
each_member P [] h = tt
each_member P (x ∷ xs) h = (h x (inl refl), each_member P xs (λ z m. h z (inr m)))

module _ (symbols : List ℕ) (params : ℕ) (p : Symbols) (q : Valuation) (rises : Rising symbols) (below : length symbols ≤ params) (gives : GivesSymbols symbols p q) where
  -- each is the symbol of a parameter
  abbrev pub Known : List ℕ → Type 0
  Known = Each (λ f. Member f symbols)

  pub symbols_agree : (v : Valuation) → AgreeBelow params q v → (fs : List ℕ) → Known fs → Each (λ f. v (rank f symbols) ≡ p f) fs
  symbols_agree v agree = each_map (λ f. Member f symbols) (λ f. v (rank f symbols) ≡ p f)
      (λ f m. let at = rank_at f symbols rises m in let bound = at.0 in
      agree (rank f symbols) (omega (arith, bound, below)) ∙ gives (rank f symbols) at.0 ∙ ap p at.1)

  module _ (c : Clause) (known : Known (symbols_in_literals c.literals)) where
    abbrev own : Numbering
    own = clause_numbering symbols params c

    -- q below the parameters, w after them
    abbrev both : Variables → Valuation
    both w x = if nat_lt x params then q x else value_at w (variables_of c) (x - params)

    both-agrees : (w : Variables) → AgreeBelow params q (both w)
    both-agrees w x h = let b : nat_lt x params ≡ true = grind (arith, nat_tests) in ap (λ b. cond b (q x) (value_at w (variables_of c) (x - params))) b

    both-variable : (w : Variables) (v : Variable) → has v (variables_of c) ≡ true → both w (params + place v (variables_of c)) ≡ w v
    both-variable w v h =
        let k = place v (variables_of c) in
        let b : nat_lt (params + k) params ≡ false = grind (arith, nat_tests) in
        let d : (params + k) - params ≡ k = omega arith in
        ap (λ b. cond b (q (params + k)) (value_at w (variables_of c) ((params + k) - params))) b
        ∙ ap (value_at w (variables_of c)) d ∙ value_at-place w v (variables_of c) h

    pub clause_from_facts : ClauseHoldsAt params q (clause_facts symbols params c) → IsTrueAt p c
    clause_from_facts h w =
        let v = both w in
        let same = literals_mean own v c.literals
        ∙ literals_agree (at_symbols own v) p (at_variables own v) w c.literals (symbols_agree v (both-agrees w) (symbols_in_literals c.literals) known)
        (each_map (λ u. has u (variables_of c) ≡ true) (λ u. v (params + place u (variables_of c)) ≡ w u) (both-variable w) (variables_in_literals c.literals) (all_noted-has [] (variables_in_literals c.literals))) in
        subst IsTrue same (h v (both-agrees w))

    pub facts_from_clause : IsTrueAt p c → ClauseHoldsAt params q (clause_facts symbols params c)
    facts_from_clause h v agree =
        let same = literals_mean own v c.literals
        ∙ literals_agree (at_symbols own v) p (at_variables own v) (at_variables own v) c.literals (symbols_agree v agree (symbols_in_literals c.literals) known)
        (each_all (λ u. at_variables own v u ≡ at_variables own v u) (λ u. refl) (variables_in_literals c.literals)) in
        subst IsTrue (sym same) (h (at_variables own v))

  pub clauses_from_facts : (cs : List Clause) → Known (symbols_in_clauses cs) → AllByRecursion (ClauseHoldsAt params q) (clauses_facts symbols params cs) → AreTrueAt p cs
  clauses_from_facts [] known h = tt
  clauses_from_facts (c ∷ cs) known h = (
    clause_from_facts c (each_left (λ f. Member f symbols) (symbols_in_literals c.literals) (symbols_in_clauses cs) known) h.0,
    clauses_from_facts cs (each_right (λ f. Member f symbols) (symbols_in_literals c.literals) (symbols_in_clauses cs) known) h.1,
  )

  pub facts_from_clauses : (cs : List Clause) → Known (symbols_in_clauses cs) → AreTrueAt p cs → AllByRecursion (ClauseHoldsAt params q) (clauses_facts symbols params cs)
  facts_from_clauses [] known h = tt
  facts_from_clauses (c ∷ cs) known h = (
    facts_from_clause c (each_left (λ f. Member f symbols) (symbols_in_literals c.literals) (symbols_in_clauses cs) known) h.0,
    facts_from_clauses cs (each_right (λ f. Member f symbols) (symbols_in_literals c.literals) (symbols_in_clauses cs) known) h.1,
  )

pub known_ascending : (fs : List ℕ) → Each (λ f. Member f (ascending fs)) fs
known_ascending fs = each_member (λ f. Member f (ascending fs)) fs (λ z m. ascending-keeps z fs m)

module _ (clauses : List Clause) (p : Symbols) (q : Valuation) (gives : GivesSymbols (symbols_of clauses) p q) where
  pub view_means : HoldsAt (view clauses).pool q ↔ AreTrueAt p clauses
  view_means =
      let symbols = symbols_of clauses in
      let rises = rising_ascending (symbols_in_clauses clauses) in
      let known = known_ascending (symbols_in_clauses clauses) in (
        clauses_from_facts symbols (length symbols) p q rises (omega arith) gives clauses known,
        facts_from_clauses symbols (length symbols) p q rises (omega arith) gives clauses known,
      )

-- ---- the negated target
not_true : (b : Bool) → IsTrue (not b) → b ≡ false
not_true true h = cc
not_true false h = refl

module _ (symbols : List ℕ) (target : Clause) (p : Symbols) (w : Variables) (q : Valuation) (rises : Rising symbols) (gives : GivesTarget symbols target p w q) where
  abbrev vars : List Variable
  vars = variables_of target

  abbrev own_target : Numbering
  own_target = target_numbering symbols target

  abbrev params : ℕ
  params = entail_params symbols target

  variables_agree : (v : Valuation) → AgreeBelow params q v → (us : List Variable) → Each (λ u. has u vars ≡ true) us → Each (λ u. v (length symbols + place u vars) ≡ w u) us
  variables_agree v agree = each_map (λ u. has u vars ≡ true) (λ u. v (length symbols + place u vars) ≡ w u)
      (λ u h. let bound = place-bound u vars h in
      agree (length symbols + place u vars) (omega (arith, bound)) ∙ gives.1 (place u vars) bound ∙ value_at-place w u vars h)

  negated_literal : (v : Valuation) → AgreeBelow params q v → (l : Literal) → Each (λ f. Member f symbols) (symbols_in_literal l) → Each (λ u. has u vars ≡ true) (variables_in_literal l)
      → list_any (holds v) (negated_view own_target l).facts ≡ not (literal_holds p w l)
  negated_literal v agree l known there =
      negated_means own_target v l
      ∙ ap not (literal_agrees (at_symbols own_target v) p (at_variables own_target v) w l
      (symbols_agree symbols params p q rises (omega arith) gives.0 v agree (symbols_in_literal l) known)
      (variables_agree v agree (variables_in_literal l) there))

  pub target_from_facts : (ls : List Literal) → Each (λ f. Member f symbols) (symbols_in_literals ls) → Each (λ u. has u vars ≡ true) (variables_in_literals ls)
      → AllByRecursion (ClauseHoldsAt params q) (negated_facts own_target ls) → list_any (literal_holds p w) ls ≡ false
  target_from_facts [] known there h = refl
  target_from_facts (l ∷ ls) known there h =
      let first = negated_literal q (λ x _. refl) l
      (each_left (λ f. Member f symbols) (symbols_in_literal l) (symbols_in_literals ls) known)
      (each_left (λ u. has u vars ≡ true) (variables_in_literal l) (variables_in_literals ls) there) in
      let rest = target_from_facts ls
      (each_right (λ f. Member f symbols) (symbols_in_literal l) (symbols_in_literals ls) known)
      (each_right (λ u. has u vars ≡ true) (variables_in_literal l) (variables_in_literals ls) there) h.1 in
      ap (λ b. b || list_any (literal_holds p w) ls) (not_true (literal_holds p w l) (subst IsTrue first (h.0 q (λ x _. refl)))) ∙ rest

  pub facts_from_target : (ls : List Literal) → Each (λ f. Member f symbols) (symbols_in_literals ls) → Each (λ u. has u vars ≡ true) (variables_in_literals ls)
      → list_any (literal_holds p w) ls ≡ false → AllByRecursion (ClauseHoldsAt params q) (negated_facts own_target ls)
  facts_from_target [] known there h = tt
  facts_from_target (l ∷ ls) known there h =
      let both = or-false (literal_holds p w l) (list_any (literal_holds p w) ls) h in (
        (λ v agree. negated_literal v agree l
            (each_left (λ f. Member f symbols) (symbols_in_literal l) (symbols_in_literals ls) known)
            (each_left (λ u. has u vars ≡ true) (variables_in_literal l) (variables_in_literals ls) there) ∙ ap not both.0),
        facts_from_target ls
            (each_right (λ f. Member f symbols) (symbols_in_literal l) (symbols_in_literals ls) known)
            (each_right (λ u. has u vars ≡ true) (variables_in_literal l) (variables_in_literals ls) there) both.1,
      )

module _ (clauses : List Clause) (target : Clause) (p : Symbols) (w : Variables) (q : Valuation) (gives : GivesTarget (entail_symbols clauses target) target p w q) where
  pub entail_view_means : HoldsAt (entail_view clauses target).pool q ↔ (AreTrueAt p clauses × (clause_holds p w target ≡ false))
  entail_view_means =
      let symbols = entail_symbols clauses target in
      let names = symbols_in_clauses clauses ++ symbols_in_literals target.literals in
      let rises = rising_ascending names in
      let known = known_ascending names in
      let known_clauses = each_left (λ f. Member f symbols) (symbols_in_clauses clauses) (symbols_in_literals target.literals) known in
      let known_target = each_right (λ f. Member f symbols) (symbols_in_clauses clauses) (symbols_in_literals target.literals) known in
      let there = all_noted-has [] (variables_in_literals target.literals) in
      let params = entail_params symbols target in
      let units = negated_facts (target_numbering symbols target) target.literals in (
        (λ h. (
          clauses_from_facts symbols params p q rises (omega arith) gives.0 clauses known_clauses
              (all_left (ClauseHoldsAt params q) (clauses_facts symbols params clauses) units h),
          target_from_facts symbols target p w q rises gives target.literals known_target there
              (all_right (ClauseHoldsAt params q) (clauses_facts symbols params clauses) units h),
        )),
        (λ h. all_join (ClauseHoldsAt params q) (clauses_facts symbols params clauses) units
            (facts_from_clauses symbols params p q rises (omega arith) gives.0 clauses known_clauses h.0)
            (facts_from_target symbols target p w q rises gives target.literals known_target there h.1)),
      )
