-- What the grounding and the search of a pool decide.
use Rattle.std.specs.Prelude.{◌≡◌, ◌<◌, ◌≤◌, ◌^◌, ◌↔◌, ℕ, ◌+◌, ℤ, Bool, true, false, nat_lt, IsTrue, length, List, [], ◌∷◌, Option, Result, Ok, Err}
use Rattle.std.specs.List.{list_all}
use Rattle.std.proofs.Common.{refl, sym, ◌∙◌, ap, subst, arith, inl, inr}
use Rattle.std.proofs.lemmas.Bool.{cases_Bool, both_ways, ltb-true}
use Rattle.lin_base.specs.declared.facts.Pool.{Pool}
use Rattle.lin_base.specs.declared.facts.Fact.{Fact}
use Rattle.lin_base.specs.Whole.{is_in_range}
use Rattle.lin_base.specs.Fact.{is_pool, HoldsAt}
use Rattle.lin_base.specs.Numbers.{results}
use Rattle.lin_base.specs.Steps.{is_narrow}
use Rattle.lin_base.specs.Sum.{Valuation}
use Rattle.cert_tree.specs.declared.certs.Tree.{Tree}
use Rattle.cert_tree.specs.declared.certs.Row.{Row}
use Rattle.cert_tree.specs.Ground.{Numbered, grounding}
use Rattle.cert_tree.specs.Holds.{checks}
use Rattle.cert_tree.specs.Laws.{valuation}
use Rattle.cert_tree.specs.Measures.{bulk, span, depth, values_at, visit_of, numbers_found}
use Rattle.cert_tree.specs.Search.{Found, closed, satisfied, searched, the_one}
use Rattle.cert_tree.specs.Stands.{stands}
use Rattle.judge_base.specs.declared.verdicts.Verdict.{Verdict}
use Rattle.judge_base.specs.declared.verdicts.Verdict.TheVariants.{Unsat, Sat, Unknown}
use Rattle.judge_base.specs.declared.verdicts.Why.{Why}
use Rattle.judge_base.specs.declared.verdicts.Why.TheVariants as why
use Rattle.judge_base.specs.Verdicts.{IsCause, Promises, max_depth}
use Rattle.search_laws.proofs.Ranges.{narrow_results, narrow_from}
use Rattle.search_laws.proofs.Right.{closed_stands, parts_in_range, wide_span}
use Rattle.search_laws.proofs.FoundValues.{found_check}
use Rattle.cooper_rows.specs.declared.counting.BudgetError.{BudgetError}
use Rattle.cooper_rows.specs.declared.counting.BudgetError.TheVariants.{Memory, Wide, Spent}
use Rattle.cooper_rows.specs.Counted.{IsAfter, IsCause as IsEnd}
use Rattle.cooper.specs.Deciding.{IsDecided, Settles, IsPast, Settled, stated, stated_by}
use Rattle.cooper.specs.Walks.{Walk, found_by, found_one, joined, one_child}

-- ---- an error of the grounding, and one of the search
pub ground_past : (pool : Pool) (limit : ℕ) (e : BudgetError) → IsEnd e limit (length (grounding pool).rows) (results (grounding pool).steps) → IsPast pool limit e
ground_past pool limit Memory h = tt
ground_past pool limit Wide h = wide_span pool (is_narrow (grounding pool).steps) (λ all. (parts_in_range pool all).0) (narrow_results (grounding pool).steps ∙ h)
ground_past pool limit Spent h = omega (arith, h)

pub search_past : (pool : Pool) (limit m : ℕ) (e : BudgetError) → IsAfter m limit (length (grounding pool).rows) (results (grounding pool).steps) → IsEnd e m (visit_of pool).nodes (visit_of pool).formed → IsPast pool limit e
search_past pool limit m Memory a h = tt
search_past pool limit m Wide a h = wide_span pool (list_all is_in_range (visit_of pool).formed) (λ all. (parts_in_range pool all).1) h
search_past pool limit m Spent a h = omega (arith, a.0, h)

-- ---- rows and nodes within the limit
pub bulk_within : (pool : Pool) (limit m k : ℕ) → IsAfter m limit (length (grounding pool).rows) (results (grounding pool).steps) → IsAfter k m (visit_of pool).nodes (visit_of pool).formed → bulk pool ≤ limit
bulk_within pool limit m k a b = omega (arith, a.0, b.0)

-- ---- a tree
trees_are : (f : Found Tree) (ts : List Tree) → closed ts ≡ joined [] (found_one f) → f ≡ closed (the_one ts)
trees_are (satisfied v) ts h = absurd (cc)
trees_are (closed t) ts h = let same : ts ≡ t ∷ [] = cc in ap (λ us. closed (the_one us)) (sym same)

pub tree_settles : (pool : Pool) (limit m k : ℕ) (ts : List Tree) (rows : List Row) → IsTrue (is_pool pool) → IsAfter m limit (length (grounding pool).rows) (results (grounding pool).steps) → IsAfter k m (visit_of pool).nodes (visit_of pool).formed
    → rows ≡ (grounding pool).rows → closed ts ≡ joined [] (found_one (visit_of pool).found) → Settles pool limit (Unsat (record { rows = rows; tree = the_one ts }))
tree_settles pool limit m k ts rows is a b rows_are told = (
  subst (λ rs. IsTrue (stands pool (record { rows = rs; tree = the_one ts }))) (sym rows_are) (closed_stands pool (the_one ts) is (narrow_from (grounding pool).steps a.1) b.1 (trees_are (visit_of pool).found ts told)),
  (bulk_within pool limit m k a b, ap (λ rs. Unsat (record { rows = rs; tree = the_one ts })) rows_are ∙ sym (ap (stated_by pool) (trees_are (visit_of pool).found ts told))),
)

-- ---- values
pub values_are : (f : Found Tree) (v : Valuation) → satisfied v ≡ joined [] (found_one f) → f ≡ satisfied v
values_are (satisfied u) v h = cc
values_are (closed t) v h = absurd (cc)

-- their check fails only where a number of it leaves the range
pub check_fails : (pool : Pool) (v : Valuation) → IsTrue (is_pool pool) → (visit_of pool).found ≡ satisfied v → checks pool (values_at pool.params v) ≡ false → 2 ^ 127 ≤ span pool
check_fails pool v is found fails = elim (cases_Bool (list_all is_in_range (numbers_found pool (visit_of pool).found))) [
  | inl all ↦ absurd (both_ways _ fails (found_check pool v is found (ap (λ r. list_all is_in_range (numbers_found pool r)) (sym found) ∙ all)))
  | inr out ↦ wide_span pool (list_all is_in_range (numbers_found pool (visit_of pool).found)) (λ whole. (parts_in_range pool whole).2) out
]

-- ---- the verdict
pub settles_promises : (pool : Pool) (limit : ℕ) (v : Verdict) → Settles pool limit v → Promises pool limit v
settles_promises pool limit (Unsat cert) h = h.0
settles_promises pool limit (Sat values) h = h.0
settles_promises pool limit (Unknown cause) h = h

not_both : (a b : ℕ) → a ≤ b → b < a → ⊥
not_both a b h k = omega (arith, h, k)

spent_only : (pool : Pool) (limit : ℕ) (cause : Why) → IsCause pool limit cause → depth pool ≤ max_depth → span pool < 2 ^ 127 → cause ≡ why.Spent
spent_only pool limit why.Spent h deep small = refl
spent_only pool limit why.Wide h deep small = absurd (not_both (2 ^ 127) (span pool) h small)
spent_only pool limit why.Deep h deep small = absurd (not_both (depth pool) max_depth deep h)

pub settles_spent : (pool : Pool) (limit : ℕ) (v : Verdict) → Settles pool limit v → depth pool ≤ max_depth → span pool < 2 ^ 127 → (v ≡ Unknown why.Spent) ↔ (limit < bulk pool)
settles_spent pool limit v h deep small = (forth v h, back v h)
  where
    forth : (u : Verdict) → Settles pool limit u → u ≡ Unknown why.Spent → limit < bulk pool
    forth u k is = subst (Settles pool limit) is k

    back : (u : Verdict) → Settles pool limit u → limit < bulk pool → u ≡ Unknown why.Spent
    back (Unsat cert) k less = absurd (not_both (bulk pool) limit k.1.0 less)
    back (Sat values) k less = absurd (not_both (bulk pool) limit k.1.0 less)
    back (Unknown cause) k less = ap Unknown (spent_only pool limit cause k deep small)

pub settles_decided : (pool : Pool) (limit : ℕ) (v : Verdict) → Settles pool limit v → bulk pool ≤ limit → span pool < 2 ^ 127 → depth pool ≤ max_depth → IsDecided v
settles_decided pool limit (Unsat cert) h within small deep = tt
settles_decided pool limit (Sat values) h within small deep = tt
settles_decided pool limit (Unknown cause) h within small deep =
    let spent = subst (IsCause pool limit) (spent_only pool limit cause h deep small) h in absurd (not_both (bulk pool) limit within spent)

pub settles_stated : (pool : Pool) (limit : ℕ) (v : Verdict) → Settles pool limit v → IsDecided v → v ≡ stated pool
settles_stated pool limit (Unsat cert) h decided = h.1.1
settles_stated pool limit (Sat values) h decided = h.1.1
settles_stated pool limit (Unknown cause) h decided = absurd decided

-- ---- the answer of a call that decides
pub settled_err : (r : Result Verdict BudgetError) (e : BudgetError) (pool : Pool) (limit : ℕ) → r ≡ Err e → IsPast pool limit e → Settled r pool limit
settled_err (Ok v) e pool limit is h = absurd (cc)
settled_err (Err d) e pool limit is h = let same : d ≡ e = cc in subst (IsPast pool limit) (sym same) h

pub settled_memory : (r : Result Verdict BudgetError) (pool : Pool) (limit : ℕ) → r ≡ Err Memory → Settled r pool limit
settled_memory r pool limit is = settled_err r Memory pool limit is tt

pub deep_settles : (pool : Pool) (n : ℕ) → n ≡ length (grounding pool).clauses → nat_lt max_depth (n + pool.params) ≡ true → max_depth < depth pool
deep_settles pool n is h = ltb-true max_depth (depth pool) (ap (λ k. nat_lt max_depth (k + pool.params)) (sym is) ∙ h)

-- the search over the ground clauses
abbrev pub root_walk : List Numbered → List Fact → Walk
root_walk clauses facts = one_child (searched clauses facts)

pub root_past : (pool : Pool) (limit m : ℕ) (e : BudgetError) (clauses : List Numbered) (facts : List Fact) → clauses ≡ (grounding pool).clauses → facts ≡ [] → IsAfter m limit (length (grounding pool).rows) (results (grounding pool).steps)
    → IsEnd e m (root_walk clauses facts).nodes (root_walk clauses facts).formed → IsPast pool limit e
root_past pool limit m e clauses facts is none a h =
    let C : List Numbered → Type 0 = λ cs. IsEnd e m (root_walk cs facts).nodes (root_walk cs facts).formed in
    let F : List Fact → Type 0 = λ fs. IsEnd e m (root_walk (grounding pool).clauses fs).nodes (root_walk (grounding pool).clauses fs).formed in
    search_past pool limit m e a (subst F none (subst C is h))

pub root_found : (pool : Pool) (m k : ℕ) (o : Option Valuation) (told now : List Tree) (clauses : List Numbered) (facts : List Fact) → clauses ≡ (grounding pool).clauses → facts ≡ [] → told ≡ []
    → IsAfter k m (root_walk clauses facts).nodes (root_walk clauses facts).formed × (found_by o now ≡ joined told (root_walk clauses facts).found)
    → IsAfter k m (visit_of pool).nodes (visit_of pool).formed × (found_by o now ≡ joined [] (found_one (visit_of pool).found))
root_found pool m k o told now clauses facts is none empty h =
    let C : List Numbered → Type 0 = λ cs. IsAfter k m (root_walk cs facts).nodes (root_walk cs facts).formed × (found_by o now ≡ joined told (root_walk cs facts).found) in
    let F : List Fact → Type 0 = λ fs. IsAfter k m (root_walk (grounding pool).clauses fs).nodes (root_walk (grounding pool).clauses fs).formed × (found_by o now ≡ joined told (root_walk (grounding pool).clauses fs).found) in
    let T : List Tree → Type 0 = λ ts. IsAfter k m (visit_of pool).nodes (visit_of pool).formed × (found_by o now ≡ joined ts (found_one (visit_of pool).found)) in
    subst T empty (subst F none (subst C is h))

-- values that were found, with the answer of their check
pub sat_settles : (pool : Pool) (v : Valuation) (values : List ℤ) (told : Bool) → (visit_of pool).found ≡ satisfied v → values ≡ values_at pool.params v → told ≡ checks pool values → told ≡ true → (IsTrue told → HoldsAt pool (valuation values)) → (limit : ℕ) → bulk pool ≤ limit → Settles pool limit (Sat values)
sat_settles pool v values told found given is h there limit within = (
  record { checked = sym is ∙ h; true_there = there h },
  (within, ap Sat given ∙ sym (ap (stated_by pool) found)),
)

pub unsure_settles : (pool : Pool) (v : Valuation) (values : List ℤ) (told : Bool) → IsTrue (is_pool pool) → (visit_of pool).found ≡ satisfied v → values ≡ values_at pool.params v → told ≡ checks pool values → told ≡ false → (limit : ℕ) → bulk pool ≤ limit → Settles pool limit (Unknown why.Wide)
unsure_settles pool v values told is found given same fails limit within = check_fails pool v is found (ap (checks pool) (sym given) ∙ sym same ∙ fails)
