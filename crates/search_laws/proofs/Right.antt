-- A Span below 2^127 makes the search right.
use Rattle.std.specs.Prelude.{◌≡◌, ◌<◌, ◌≤◌, ◌^◌, ℕ, Bool, true, false, nat_lt, IsTrue, [], ◌++◌}
use Rattle.std.specs.List.{list_all, flat_map}
use Rattle.std.proofs.Common.{refl, ◌∙◌, ap, sym, inl, inr}
use Rattle.std.proofs.lemmas.Bool.{both_ways, cases_Bool, ltb-true, ltb-false}
use Rattle.lin_base.specs.declared.facts.Pool.{Pool}
use Rattle.lin_base.specs.Whole.{is_in_range}
use Rattle.lin_base.specs.Fact.{is_pool}
use Rattle.lin_base.specs.Numbers.{numbers_of, results}
use Rattle.lin_base.specs.Steps.{is_narrow}
use Rattle.cert_tree.specs.declared.certs.Tree.{Tree}
use Rattle.cert_tree.specs.Narrow.{some_and}
use Rattle.cert_tree.specs.Stands.{Stands, tree_stands}
use Rattle.cert_tree.specs.Ground.{grounding}
use Rattle.cert_tree.specs.Search.{Found, closed, satisfied}
use Rattle.cert_tree.specs.Measures.{visit_of, numbers_found, numbers, span}
use Rattle.search_laws.specs.Laws.{IsRight}
use Rattle.search_laws.proofs.Ranges.{InRange, range_parts, range_three, narrow_from, all_in_range}
use Rattle.search_laws.proofs.GroundRows.{grounding_extends}
use Rattle.search_laws.proofs.Closing.{searched_closes}
use Rattle.search_laws.proofs.FoundValues.{found_check}

-- the rows of the grounding and the tree of a search that closed
pub closed_stands : (pool : Pool) (t : Tree) → IsTrue (is_pool pool) → is_narrow (grounding pool).steps ≡ true → InRange (visit_of pool).formed → (visit_of pool).found ≡ closed t → Stands pool (record { rows = (grounding pool).rows; tree = t })
closed_stands pool t is narrow range found =
    let extends_ = grounding_extends pool.params pool.clauses is narrow in
    let tree = searched_closes pool.params extends_.0 (grounding pool).clauses extends_.4 [] (refl, refl) t range found in
    ap (λ o. some_and o (λ clauses. tree_stands pool.params clauses t [] [])) extends_.1 ∙ tree

-- what is in the range where all numbers of the pool are
pub parts_in_range : (pool : Pool) → InRange (numbers pool) → (is_narrow (grounding pool).steps ≡ true) × InRange (visit_of pool).formed × InRange (numbers_found pool (visit_of pool).found)
parts_in_range pool h =
    let found = numbers_found pool (visit_of pool).found in
    let stand = flat_map (flat_map numbers_of) pool.clauses in
    let steps = results (grounding pool).steps in
    let one = range_three (stand ++ steps) (visit_of pool).formed found h in
    let two = range_parts stand steps one.0 in
    (narrow_from (grounding pool).steps two.1, one.1, one.2)

pub right : (pool : Pool) → IsTrue (is_pool pool) → span pool < 2 ^ 127 → IsRight pool (visit_of pool).found
right pool is small = by_found (visit_of pool).found refl
  where
    by_found : (r : Found Tree) → (visit_of pool).found ≡ r → IsRight pool r
    by_found (closed t) e =
        let parts = parts_in_range pool (all_in_range (numbers pool) small) in
        closed_stands pool t is parts.0 parts.1 e
    by_found (satisfied v) e =
        let parts = parts_in_range pool (all_in_range (numbers pool) small) in
        found_check pool v is e (ap (λ r. list_all is_in_range (numbers_found pool r)) (sym e) ∙ parts.2)

-- a test that holds below a bound fails only from the bound on
from_bound : (b : Bool) (m n : ℕ) → (m < n → b ≡ true) → b ≡ false → n ≤ m
from_bound b m n below fails = elim (cases_Bool (nat_lt m n)) [
  | inl less ↦ absurd (both_ways b fails (below (ltb-true m n less)))
  | inr more ↦ ltb-false m n more
]

pub wide_span : (pool : Pool) (b : Bool) → (InRange (numbers pool) → b ≡ true) → b ≡ false → 2 ^ 127 ≤ span pool
wide_span pool b holds_ fails = from_bound b (span pool) (2 ^ 127) (λ small. holds_ (all_in_range (numbers pool) small)) fails
