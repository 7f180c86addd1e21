-- The truth of facts and pools at whole numbers.
use Rattle.std.specs.Prelude.{ℕ, ℤ, pos, ◌≡◌, ◌<◌, Bool, true, not, ◌&&◌, int_le, nat_lt, IsTrue, List, [], ◌∷◌}
use Rattle.std.specs.List.{list_any, list_all, AllByRecursion}
use Rattle.lin_base.specs.declared.sums.Lin.{Lin}
use Rattle.lin_base.specs.declared.facts.Fact.{Fact}
use Rattle.lin_base.specs.declared.facts.Fact.TheVariants.{AtMostZero, Zero, Divides, NotDivides}
use Rattle.lin_base.specs.declared.facts.Pool.{Pool}
use Rattle.lin_base.specs.Whole.{is_zero, divides}
use Rattle.lin_base.specs.Sum.{Terms, Valuation, value, is_reduced, has_unknown}

-- the sum that a fact speaks of
abbrev pub sum_of : Fact → Lin
sum_of (AtMostZero t) = t
sum_of (Zero t) = t
sum_of (Divides m t) = t
sum_of (NotDivides m t) = t

-- the fact is true at these values: `t <= 0`, `t = 0`, m divides t, m doesn't divide t
abbrev pub holds : Valuation → Fact → Bool
holds v (AtMostZero t) = int_le (value v t) (pos 0)
holds v (Zero t) = is_zero (value v t)
holds v (Divides m t) = divides m (value v t)
holds v (NotDivides m t) = not (divides m (value v t))

-- the fact is true where its sum is z
abbrev pub holds_at : ℤ → Fact → Bool
holds_at z (AtMostZero t) = int_le z (pos 0)
holds_at z (Zero t) = is_zero z
holds_at z (Divides m t) = divides m z
holds_at z (NotDivides m t) = not (divides m z)

-- the fact has no unknown and is false
abbrev pub is_false : Fact → Bool
is_false f = not (has_unknown (sum_of f)) && not (holds (λ x. pos 0) f)

-- some literal of the clause is true
abbrev pub clause_holds : Valuation → List Fact → Bool
clause_holds v clause = list_any (holds v) clause

-- the same values for the parameters
abbrev pub AgreeBelow : ℕ → Valuation → Valuation → Type 0
AgreeBelow params p v = (x : ℕ) → x < params → v x ≡ p x

-- for all values of its variables some literal of the clause is true
abbrev pub ClauseHoldsAt : ℕ → Valuation → List Fact → Type 0
ClauseHoldsAt params p clause = (v : Valuation) → AgreeBelow params p v → IsTrue (clause_holds v clause)

-- the pool is true at the parameter values p
abbrev pub HoldsAt : Pool → Valuation → Type 0
HoldsAt pool p = AllByRecursion (ClauseHoldsAt pool.params p) pool.clauses

-- the pool is true at no values
abbrev pub Impossible : Pool → Type 0
Impossible pool = (p : Valuation) → ¬ HoldsAt pool p

-- ---- what every fact of a pool or a certificate is
-- the unknowns ascend
abbrev pub is_ascending : Terms → Bool
is_ascending [] = true
is_ascending (e ∷ []) = true
is_ascending (e ∷ f ∷ ts) = nat_lt e.0 f.0 && is_ascending (f ∷ ts)

-- and no coefficient is 0
abbrev pub is_lin : Lin → Bool
is_lin t = is_ascending t.coefs && is_reduced t.coefs

-- and a modulus is at least 2
abbrev pub is_fact : Fact → Bool
is_fact (AtMostZero t) = is_lin t
is_fact (Zero t) = is_lin t
is_fact (Divides m t) = int_le (pos 2) m && is_lin t
is_fact (NotDivides m t) = int_le (pos 2) m && is_lin t

-- each literal of each clause
abbrev pub is_pool : Pool → Bool
is_pool pool = list_all (list_all is_fact) pool.clauses
