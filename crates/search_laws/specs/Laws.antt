-- What the stated search finds, as types.
use Rattle.std.specs.Prelude.{◌≡◌, ℕ, length, ◌<◌, ◌≤◌, false, ◌^◌, ℤ, List, IsTrue}
use Rattle.std.specs.List.{list_all, AllByRecursion}
use Rattle.lin_base.specs.declared.facts.Pool.{Pool}
use Rattle.lin_base.specs.Whole.{is_in_range}
use Rattle.lin_base.specs.Sum.{Valuation}
use Rattle.lin_base.specs.Fact.{is_fact, is_pool, HoldsAt}
use Rattle.lin_base.specs.Steps.{is_narrow}
use Rattle.cert_tree.specs.declared.certs.Tree.{Tree}
use Rattle.cert_tree.specs.Ground.{Numbered, ground_by, ground_each, ground_clause, grounding}
use Rattle.cert_tree.specs.Stands.{Stands}
use Rattle.cert_tree.specs.Holds.{Holds}
use Rattle.cert_tree.specs.Laws.{valuation}
use Rattle.cert_tree.specs.Search.{Found, closed, satisfied}
use Rattle.cert_tree.specs.Measures.{visit_of, values_at, numbers_found, numbers, span}

-- each of the numbers is in the range
abbrev pub AllInRange : List ℤ → Type 0
AllInRange zs = IsTrue (list_all is_in_range zs)

-- the rows of the grounding and the tree of a search that closed are a certificate, where no number of theirs leaves the range
abbrev pub ClosedSearchStands : Type 0
ClosedSearchStands = (pool : Pool) (t : Tree) → IsTrue (is_pool pool) → IsTrue (is_narrow (grounding pool).steps) → AllInRange (visit_of pool).formed
    → (visit_of pool).found ≡ closed t → Stands pool (record { rows = (grounding pool).rows; tree = t })

-- a pool is true at the values that a search finds
abbrev pub FoundValuesHold : Type 0
FoundValuesHold = (pool : Pool) (v : Valuation) → IsTrue (is_pool pool) → (visit_of pool).found ≡ satisfied v → HoldsAt pool (valuation (values_at pool.params v))

-- and their check says yes, where no number of it leaves the range
abbrev pub FoundValuesCheck : Type 0
FoundValuesCheck = (pool : Pool) (v : Valuation) → IsTrue (is_pool pool) → (visit_of pool).found ≡ satisfied v
    → AllInRange (numbers_found pool (satisfied v)) → Holds pool (values_at pool.params v)

-- what a search found is a certificate that stands, or values whose check says yes
abbrev pub IsRight : Pool → Found Tree → Type 0
IsRight pool (closed t) = Stands pool (record { rows = (grounding pool).rows; tree = t })
IsRight pool (satisfied v) = Holds pool (values_at pool.params v)

-- a Span below 2^127 makes the search right
abbrev pub SearchIsRight : Type 0
SearchIsRight = (pool : Pool) → IsTrue (is_pool pool) → span pool < 2 ^ 127 → IsRight pool (visit_of pool).found

-- numbers whose greatest absolute value is below 2^127 are in the range
abbrev pub SpanBoundsNumbers : Type 0
SpanBoundsNumbers = (pool : Pool) → span pool < 2 ^ 127 → AllInRange (numbers pool)

-- what is in the range where all numbers of a pool are: the steps of the grounding, the numbers of the visit, and those of the values and their check
abbrev pub NumbersInRange : Type 0
NumbersInRange = (pool : Pool) → AllInRange (numbers pool)
    → IsTrue (is_narrow (grounding pool).steps) × AllInRange (visit_of pool).formed × AllInRange (numbers_found pool (visit_of pool).found)

-- and the other way, each by itself: a step of the grounding, a number of the visit, or one of the values and their check that leaves the range
abbrev pub WideMakesSpan : Type 0
WideMakesSpan = (pool : Pool) → (is_narrow (grounding pool).steps ≡ false → 2 ^ 127 ≤ span pool)
    × (list_all is_in_range (visit_of pool).formed ≡ false → 2 ^ 127 ≤ span pool)
    × (list_all is_in_range (numbers_found pool (visit_of pool).found) ≡ false → 2 ^ 127 ≤ span pool)

-- a well-formed clause has at least one ground clause, by any variables; several have at least as many as they are, by the same variables or each by its own
abbrev pub GroundingNeverShrinks : Type 0
GroundingNeverShrinks = ((xs : List ℕ) (next : ℕ) (c : Numbered) → IsTrue (list_all is_fact c.1) → 1 ≤ length (ground_by xs next c).clauses)
    × ((xs : List ℕ) (next : ℕ) (ns : List Numbered) → AllByRecursion (λ c. IsTrue (list_all is_fact c.1)) ns → length ns ≤ length (ground_each (ground_by xs) next ns).clauses)
    × ((params next : ℕ) (ns : List Numbered) → AllByRecursion (λ c. IsTrue (list_all is_fact c.1)) ns → length ns ≤ length (ground_each (ground_clause params) next ns).clauses)
