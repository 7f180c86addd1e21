-- Worked views.
use Rattle.std.specs.Prelude.{◌≡◌, ℕ, ℤ, pos, negsuc, List, [], ◌∷◌, Some, None}
use Rattle.term_base.specs.TermFolds.{fold-Num, fold-Scale, fold-App}
use Rattle.term_base.specs.declared.terms.Term.{Term}
use Rattle.term_base.specs.declared.terms.Term.TheVariants.{Num, Scale, App}
use Rattle.term_base.specs.declared.clauses.Literal.{Literal}
use Rattle.term_base.specs.declared.clauses.Literal.TheVariants.{Equal, AtMost}
use Rattle.term_base.specs.declared.clauses.Clause.{Clause}
use Rattle.lin_base.specs.declared.sums.Lin.{Lin}
use Rattle.lin_base.specs.declared.facts.Fact.{Fact}
use Rattle.lin_base.specs.declared.facts.Fact.TheVariants.{AtMostZero, Zero}
use Rattle.lin_base.specs.declared.facts.Pool.{Pool}
use Rattle.lin_base.specs.Steps.{multiplies}
use Rattle.bg_view.specs.View.{first_wide_at, view, view_steps, entail_view}

-- ---- short forms
abbrev lin : List (ℕ × ℤ) → ℤ → Lin
lin ts c = record { coefs = ts; constant = c }

abbrev clause : List Literal → Clause
clause ls = record { literals = ls }

abbrev pool_of : ℕ → List (List Fact) → Pool
pool_of n cs = record { params = n; clauses = cs }

abbrev s0 : Term
s0 = App 0 []

-- what `simp` computes folds of terms by
ruleset terms = (fold-Num, fold-Scale, fold-App)

-- ---- (2 * s0) = 1 gives 2u0 - 1 = 0
abbrev twice : List Clause
twice = clause (Equal (Scale (pos 2) s0) (Num (pos 1)) ∷ []) ∷ []

row-symbols : (view twice).symbols ≡ 0 ∷ []
row-symbols = simp terms

row-pool : (view twice).pool ≡ pool_of 1 ((Zero (lin ((0, pos 2) ∷ []) (negsuc 0)) ∷ []) ∷ [])
row-pool = simp terms

row-narrow : first_wide_at 0 (view_steps twice) ≡ None
row-narrow = simp terms

-- ---- the negation of s0 <= 1 | s0 = 5 is -u0 + 2 <= 0, and u0 - 4 <= 0 or -u0 + 6 <= 0
row-negated : (entail_view [] (clause (AtMost s0 (Num (pos 1)) ∷ Equal s0 (Num (pos 5)) ∷ []))).pool ≡ pool_of 1
    ((AtMostZero (lin ((0, negsuc 0) ∷ []) (pos 2)) ∷ [])
    ∷ (AtMostZero (lin ((0, pos 1) ∷ []) (negsuc 3)) ∷ AtMostZero (lin ((0, negsuc 0) ∷ []) (pos 6)) ∷ [])
    ∷ [])
row-negated = simp terms

-- ---- in 0 <= -2^127 the right side is multiplied by -1; negsuc n is -n - 1
row-wide : first_wide_at 0 (view_steps (clause (AtMost (Num (pos 0)) (Num (negsuc 170141183460469231731687303715884105727)) ∷ []) ∷ [])) ≡ Some (record { clause = 0; wide = multiplies (negsuc 0) (negsuc 170141183460469231731687303715884105727) })
row-wide = simp terms
