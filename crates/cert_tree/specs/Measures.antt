-- Bulk, Span and Depth: three numbers of a pool, for the budget alone.
use Rattle.std.specs.Prelude.{ℕ, ◌+◌, ℤ, length, List, [], ◌++◌, map}
use Rattle.std.specs.List.{flat_map}
use Rattle.lin_base.specs.declared.facts.Pool.{Pool}
use Rattle.lin_base.specs.Sum.{Valuation}
use Rattle.lin_base.specs.Numbers.{results, numbers_of, greatest_abs}
use Rattle.cert_tree.specs.declared.certs.Tree.{Tree}
use Rattle.cert_tree.specs.Counting.{count_from}
use Rattle.cert_tree.specs.Ground.{grounding}
use Rattle.cert_tree.specs.Holds.{check_steps}
use Rattle.cert_tree.specs.Search.{Found, closed, satisfied, Visit, searched}

-- the search over the ground clauses, without facts
abbrev pub visit_of : Pool → Visit Tree
visit_of pool = searched (grounding pool).clauses []

-- the rows of Ground and the visited nodes
abbrev pub bulk : Pool → ℕ
bulk pool = length (grounding pool).rows + (visit_of pool).nodes

-- the ground clauses and the parameters
abbrev pub depth : Pool → ℕ
depth pool = length (grounding pool).clauses + pool.params

-- the values of the parameters in order
abbrev pub values_at : ℕ → Valuation → List ℤ
values_at params v = map v (count_from 0 params)

-- ---- Span
-- the values that a satisfied leaf gives, and the numbers that their check forms
abbrev pub numbers_found : Pool → Found Tree → List ℤ
numbers_found pool (closed t) = []
numbers_found pool (satisfied v) = values_at pool.params v ++ results (flat_map (check_steps pool.params (values_at pool.params v)) pool.clauses)

-- the numbers that stand in the pool, and those formed in the rows, the visited nodes, the values and their check
abbrev pub numbers : Pool → List ℤ
numbers pool = flat_map (flat_map numbers_of) pool.clauses ++ results (grounding pool).steps ++ (visit_of pool).formed ++ numbers_found pool (visit_of pool).found

-- the greatest absolute value among them
abbrev pub span : Pool → ℕ
span pool = greatest_abs (numbers pool)
