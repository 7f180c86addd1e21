-- The values that a search finds.
use Rattle.std.specs.Prelude.{◌≡◌, ℤ, true, List, []}
use Rattle.std.specs.List.{list_all, flat_map}
use Rattle.std.proofs.Common.{refl}
use Rattle.lin_base.specs.declared.facts.Pool.{Pool}
use Rattle.lin_base.specs.Sum.{Valuation}
use Rattle.lin_base.specs.Fact.{is_fact, HoldsAt}
use Rattle.lin_base.specs.Numbers.{results}
use Rattle.cert_tree.specs.Ground.{grounding}
use Rattle.cert_tree.specs.Holds.{Holds, check_steps}
use Rattle.cert_tree.specs.Laws.{valuation}
use Rattle.cert_tree.specs.Search.{satisfied}
use Rattle.cert_tree.specs.Measures.{visit_of, values_at, numbers_found}
use Rattle.cert_tree.proofs.HoldsSound.{true_holds}
use Rattle.cert_tree.proofs.Narrow.{each_narrow}
use Rattle.cert_tree.proofs.WellFormed.{pool_proper}
use Rattle.search_laws.proofs.Ranges.{InRange, range_parts, narrow_from}
use Rattle.search_laws.proofs.GroundFacts.{grounding_facts}
use Rattle.search_laws.proofs.Satisfying.{searched_satisfies}
use Rattle.search_laws.proofs.PoolValues.{pool_at_values, length_values}

pub found_hold : (pool : Pool) (v : Valuation) → list_all (list_all is_fact) pool.clauses ≡ true → (visit_of pool).found ≡ satisfied v → HoldsAt pool (valuation (values_at pool.params v))
found_hold pool v is found =
    let ground_hold = searched_satisfies (grounding pool).clauses (grounding_facts pool is) [] refl v found in
    pool_at_values pool v (pool_proper pool is) ground_hold.1

pub found_check : (pool : Pool) (v : Valuation) → list_all (list_all is_fact) pool.clauses ≡ true → (visit_of pool).found ≡ satisfied v → InRange (numbers_found pool (satisfied v)) → Holds pool (values_at pool.params v)
found_check pool v is found range =
    let values : List ℤ = values_at pool.params v in
    let steps = flat_map (check_steps pool.params values) pool.clauses in
    let parts = range_parts values (results steps) range in
    let narrow = each_narrow (check_steps pool.params values) pool.clauses (narrow_from steps parts.1) in
    true_holds pool values (pool_proper pool is) (length_values pool.params v) narrow (found_hold pool v is found)
