-- Where the ground clauses are true at values, the pool is true at the values of its parameters.
use Rattle.std.specs.Prelude.{◌≡◌, ℕ, zero, suc, ◌+◌, ◌<◌, nat_lt, cond, pos, true, length, slice_index_or, List, [], ◌∷◌, ◌++◌, map}
use Rattle.std.specs.List.{enumerate_from, AllByRecursion}
use Rattle.std.proofs.Common.{refl, ◌∙◌, ap, arith, inl, inr}
use Rattle.std.proofs.lemmas.Bool.{cond_both, or_cases, both_ways, ltb-true}
use Rattle.std.proofs.lemmas.List.{length-map}
use Rattle.lin_base.specs.declared.facts.Fact.{Fact}
use Rattle.lin_base.specs.declared.facts.Pool.{Pool}
use Rattle.lin_base.specs.Sum.{Valuation, occurs}
use Rattle.lin_base.specs.Fact.{clause_holds, sum_of, AgreeBelow, ClauseHoldsAt, HoldsAt}
use Rattle.lin_base.proofs.Truth.{same_holds}
use Rattle.cert_tree.specs.Counting.{count_from, is_one_of, occurs_in}
use Rattle.cert_tree.specs.Ground.{Numbered, Grounding, variables, ground_each, ground_clause, grounding}
use Rattle.cert_tree.specs.Laws.{valuation}
use Rattle.cert_tree.specs.Measures.{values_at}
use Rattle.cert_tree.proofs.Bounding.{length-count_from}
use Rattle.cert_tree.proofs.Least.{EachProper}
use Rattle.cert_tree.proofs.GroundTruth.{AllTrue, ground_truth}
use Rattle.search_laws.proofs.Choices.{or_left, or_right}
use Rattle.search_laws.proofs.Variables.{param_or_variable, terms_pass}

-- a clause is as true at values that agree where an unknown occurs
same_where_occurring : (v w : Valuation) (fs : List Fact) → ((y : ℕ) → occurs_in y fs ≡ true → v y ≡ w y) → clause_holds v fs ≡ clause_holds w fs
same_where_occurring v w [] h = refl
same_where_occurring v w (f ∷ fs) h =
    let here = same_holds (λ y. occurs y (sum_of f)) v w (λ y o. h y (or_left (occurs y (sum_of f)) (occurs_in y fs) o)) f (terms_pass (λ y. occurs y (sum_of f)) (sum_of f).coefs (λ y o. o)) in
    rw (here, same_where_occurring v w fs (λ y o. h y (or_right (occurs y (sum_of f)) (occurs_in y fs) o))) refl

-- ---- the values as a list
value_from : (v : Valuation) (i n y : ℕ) → y < n → slice_index_or (map v (count_from i n)) y (pos 0) ≡ v (i + y)
value_from v i zero y h = absurd (omega (arith, h))
value_from v i (suc n) zero h = let same : i ≡ i + 0 = omega arith in ap v same
value_from v i (suc n) (suc y) h = let same : suc i + y ≡ i + suc y = omega arith in value_from v (suc i) n y (omega (arith, h)) ∙ ap v same

value_at : (params : ℕ) (v : Valuation) (y : ℕ) → y < params → valuation (values_at params v) y ≡ v y
value_at params v y h = let same : 0 + y ≡ y = omega arith in value_from v 0 params y h ∙ ap v same

pub length_values : (params : ℕ) (v : Valuation) → length (values_at params v) ≡ params
length_values params v = length-map (count_from 0 params) v ∙ length-count_from 0 params

true_parts : (v : Valuation) (ms ns : List Numbered) → AllTrue v (ms ++ ns) → AllTrue v ms × AllTrue v ns
true_parts v [] ns all = (tt, all)
true_parts v (m ∷ ms) ns all = let rest = true_parts v ms ns all.1 in ((all.0, rest.0), rest.1)

module _ (params : ℕ) (v : Valuation) where
  -- u at the variables of the clause, v elsewhere
  abbrev at_variables : List Fact → Valuation → Valuation
  at_variables clause u y = cond (is_one_of (variables params clause) y) (u y) (v y)

  same_values : (clause : List Fact) (u : Valuation) → AgreeBelow params (valuation (values_at params v)) u → (y : ℕ) → occurs_in y clause ≡ true → u y ≡ at_variables clause u y
  same_values clause u agree y o =
      let xs : List ℕ = variables params clause in
      cond_both (is_one_of xs y) (u y) (v y) (λ z. u y ≡ z) (λ _. refl)
      (λ none. elim (or_cases (nat_lt y params) (is_one_of xs y) (param_or_variable params y clause o)) [
        | inl below ↦ let less = ltb-true y params below in agree y less ∙ value_at params v y less
        | inr one ↦ absurd (both_ways (is_one_of xs y) none one)
      ])

  clause_at : (next : ℕ) (c : Numbered) → EachProper c.1 → AllTrue v (ground_clause params next c).clauses → ClauseHoldsAt params (valuation (values_at params v)) c.1
  clause_at next c proper all = λ u agree.
      same_where_occurring u (at_variables c.1 u) c.1 (same_values c.1 u agree)
      ∙ (ground_truth (variables params c.1) next c v proper).0 all (at_variables c.1 u) (λ y none. rw none refl)

  clauses_at : (cs : List (List Fact)) (next start : ℕ) → AllByRecursion EachProper cs → AllTrue v (ground_each (ground_clause params) next (enumerate_from start cs)).clauses → AllByRecursion (ClauseHoldsAt params (valuation (values_at params v))) cs
  clauses_at [] next start proper all = tt
  clauses_at (c ∷ cs) next start proper all =
      let g : Grounding = ground_clause params next (start, c) in
      let rest : Grounding = ground_each (ground_clause params) (next + length g.rows) (enumerate_from (start + 1) cs) in
      let parts = true_parts v g.clauses rest.clauses all in
      (clause_at next (start, c) proper.0 parts.0, clauses_at cs (next + length g.rows) (start + 1) proper.1 parts.1)

pub pool_at_values : (pool : Pool) (v : Valuation) → AllByRecursion EachProper pool.clauses → AllTrue v (grounding pool).clauses → HoldsAt pool (valuation (values_at pool.params v))
pool_at_values pool v proper all = clauses_at pool.params v pool.clauses (length pool.clauses) 0 proper all
