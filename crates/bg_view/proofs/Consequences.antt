-- A pool that is true at no values refutes its clauses, or shows that they entail the target.
use Rattle.std.specs.Prelude.{◌≡◌, ℕ, ◌+◌, ◌-◌, Bool, true, false, cond, nat_lt, List, [], ◌++◌, length, IsTrue, if◌then◌else◌}
use Rattle.std.proofs.Common.{refl, sym, ◌∙◌, ap, arith, get_or}
use Rattle.std.proofs.lemmas.Bool.Decides.{nat_tests}
use Rattle.term_base.specs.declared.variables.Variable.{Variable}
use Rattle.term_base.specs.declared.clauses.Clause.{Clause}
use Rattle.lin_base.specs.Sum.{Valuation}
use Rattle.lin_base.specs.Fact.{Impossible}
use Rattle.bg_view.specs.Unknowns.{rank, place, symbols_in_literals, symbols_in_clauses, symbols_of, variables_in_literals, variables_of}
use Rattle.bg_view.specs.View.{view, entail_symbols, entail_view}
use Rattle.bg_view.specs.Truth.{Symbols, Variables, clause_holds, GivesTarget, AreContradictory, Entail, value_at}
use Rattle.bg_view.proofs.Ascending.{rising_ascending, rank_of}
use Rattle.bg_view.proofs.Distinct.{distinct_all_noted, value_at-own_place}
use Rattle.bg_view.proofs.PoolMeaning.{view_means, entail_view_means}

module _ (clauses : List Clause) where
  abbrev symbols : List ℕ
  symbols = symbols_of clauses

  pub contradictory : Impossible (view clauses).pool → AreContradictory clauses
  contradictory h p t = h (λ x. p (get_or symbols x 0)) ((view_means clauses p (λ x. p (get_or symbols x 0)) (λ x _. refl)).1 t)

  pub impossible : AreContradictory clauses → Impossible (view clauses).pool
  impossible h q t =
      let p : Symbols = λ f. q (rank f symbols) in
      h p ((view_means clauses p q (λ x l. ap q (sym (rank_of symbols x (rising_ascending (symbols_in_clauses clauses)) l)))).0 t)

module _ (clauses : List Clause) (target : Clause) where
  abbrev names : List ℕ
  names = entail_symbols clauses target

  abbrev vars : List Variable
  vars = variables_of target

  -- the values of the symbols, and then those of the target's variables
  abbrev joined : Symbols → Variables → Valuation
  joined p w x = if nat_lt x (length names) then p (get_or names x 0) else value_at w vars (x - length names)

  joined-gives : (p : Symbols) (w : Variables) → GivesTarget names target p w (joined p w)
  joined-gives p w = (
    (λ x l. let b : nat_lt x (length names) ≡ true = grind (arith, nat_tests) in
        ap (λ b. cond b (p (get_or names x 0)) (value_at w vars (x - length names))) b),
    (λ x l. let b : nat_lt (length names + x) (length names) ≡ false = grind (arith, nat_tests) in
        let d : (length names + x) - length names ≡ x = omega arith in
        ap (λ b. cond b (p (get_or names (length names + x) 0)) (value_at w vars ((length names + x) - length names))) b ∙ ap (value_at w vars) d),
  )

  decided : (b : Bool) → (b ≡ false → ⊥) → IsTrue b
  decided true h = refl
  decided false h = absurd (h refl)

  pub entailed : Impossible (entail_view clauses target).pool → Entail clauses target
  entailed h p t w = decided (clause_holds p w target)
      (λ e. h (joined p w) ((entail_view_means clauses target p w (joined p w) (joined-gives p w)).1 (t, e)))

  false_somewhere : (b : Bool) → IsTrue b → b ≡ false → ⊥
  false_somewhere true h e = cc
  false_somewhere false h e = cc

  pub impossible_together : Entail clauses target → Impossible (entail_view clauses target).pool
  impossible_together h q t =
      let p : Symbols = λ f. q (rank f names) in
      let w : Variables = λ u. q (length names + place u vars) in
      let gives : GivesTarget names target p w q = (
        (λ x l. ap q (sym (rank_of names x (rising_ascending (symbols_in_clauses clauses ++ symbols_in_literals target.literals)) l))),
        (λ x l. sym (value_at-own_place (λ k. q (length names + k)) vars x (distinct_all_noted [] (variables_in_literals target.literals) tt) l)),
      ) in
      let told = (entail_view_means clauses target p w q gives).0 t in
      false_somewhere (clause_holds p w target) (h p told.0 w) told.1
