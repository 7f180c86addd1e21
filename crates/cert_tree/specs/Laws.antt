-- What the certificates and the check of values promise, as types.
use Rattle.std.specs.Prelude.{◌≡◌, ℕ, ℤ, pos, length, IsTrue, slice_index_or, slice_get, Some, List, ◌↔◌}
use Rattle.std.specs.List.{AllByRecursion, flat_map}
use Rattle.lin_base.specs.declared.facts.Fact.{Fact}
use Rattle.lin_base.specs.declared.facts.Pool.{Pool}
use Rattle.lin_base.specs.Sum.{Valuation, assigned}
use Rattle.lin_base.specs.Fact.{holds, clause_holds, is_fact, is_pool, HoldsAt, Impossible}
use Rattle.lin_base.specs.Steps.{is_narrow}
use Rattle.cert_tree.specs.declared.certs.Cert.{Cert}
use Rattle.cert_tree.specs.Children.{least_children}
use Rattle.cert_tree.specs.Stands.{Stands}
use Rattle.cert_tree.specs.Complete.{complete}
use Rattle.cert_tree.specs.Holds.{Holds, check_steps}

-- the values as a valuation
abbrev pub valuation : List ℤ → Valuation
valuation values x = slice_index_or values x (pos 0)

-- each of the facts is true
abbrev pub AllHold : Valuation → List Fact → Type 0
AllHold v facts = AllByRecursion (λ f. IsTrue (holds v f)) facts

-- the facts of one of these lists are true
abbrev pub SomeHold : Valuation → List (List Fact) → Type 0
SomeHold v states = (facts : List Fact) × (n : ℕ) × (slice_get states n ≡ Some facts) × AllHold v facts

-- a pool with a certificate that stands is impossible
abbrev pub StandsImpossible : Type 0
StandsImpossible = (pool : Pool) (cert : Cert) → IsTrue (is_pool pool) → Stands pool cert → Impossible pool

-- a pool is true at values that hold
abbrev pub HoldsTrue : Type 0
HoldsTrue = (pool : Pool) (values : List ℤ) → IsTrue (is_pool pool) → Holds pool values → HoldsAt pool (valuation values)

-- and the other way, where no number of the check leaves the range
abbrev pub TrueHolds : Type 0
TrueHolds = (pool : Pool) (values : List ℤ) → IsTrue (is_pool pool) → length values ≡ pool.params
    → IsTrue (is_narrow (flat_map (check_steps pool.params values) pool.clauses)) → HoldsAt pool (valuation values) → Holds pool values

-- the clause is true at each value of x
abbrev pub TrueForAll : Valuation → ℕ → List Fact → Type 0
TrueForAll v x clause = (z : ℤ) → IsTrue (clause_holds (assigned x z v) clause)

-- each of the clauses is true
abbrev pub AllTrue : Valuation → List (List Fact) → Type 0
AllTrue v clauses = AllByRecursion (λ c. IsTrue (clause_holds v c)) clauses

-- for all x the clause is true exactly where all clauses of Complete are
abbrev pub CompleteShift : Type 0
CompleteShift = (clause : List Fact) (x : ℕ) (v : Valuation) → AllByRecursion (λ f. IsTrue (is_fact f)) clause
    → TrueForAll v x clause ↔ AllTrue v (complete x clause)

-- facts that hold have a child of Least whose facts hold, with another value for p alone
abbrev pub LeastShift : Type 0
LeastShift = (facts : List Fact) (p : ℕ) (v : Valuation) → AllByRecursion (λ f. IsTrue (is_fact f)) facts
    → AllHold v facts → (z : ℤ) × SomeHold (assigned p z v) (least_children p facts)
