-- The clauses of a grounding are well formed.
use Rattle.std.specs.Prelude.{◌≡◌, ℕ, ◌+◌, true, false, length, List, [], ◌∷◌, ◌++◌, map}
use Rattle.std.specs.List.{list_all, enumerate_from, AllByRecursion}
use Rattle.std.proofs.Common.{◌∙◌, ap}
use Rattle.std.proofs.lemmas.Bool.{and_parts}
use Rattle.lin_base.specs.declared.facts.Fact.{Fact}
use Rattle.lin_base.specs.declared.facts.Pool.{Pool}
use Rattle.lin_base.specs.Fact.{is_fact}
use Rattle.cert_tree.specs.declared.certs.Row.{Row}
use Rattle.cert_tree.specs.Counting.{occurs_in}
use Rattle.cert_tree.specs.Rows.{row_clause}
use Rattle.cert_tree.specs.Complete.{complete_rows, complete_steps}
use Rattle.cert_tree.specs.Ground.{Numbered, Grounding, variables, then_ground, ground_each, ground_by, ground_clause, grounding}
use Rattle.cert_tree.proofs.Completion.{complete_on, is_fact-complete}

-- each literal of each clause is well formed
abbrev pub AreFacts : List Numbered → Type 0
AreFacts ns = AllByRecursion (λ c. list_all is_fact c.1 ≡ true) ns

pub enumerated_facts : (n : ℕ) (cs : List (List Fact)) → list_all (list_all is_fact) cs ≡ true → AreFacts (enumerate_from n cs)
enumerated_facts n [] h = tt
enumerated_facts n (c ∷ cs) h = let both = and_parts (list_all is_fact c) (list_all (list_all is_fact) cs) h in (both.0, enumerated_facts (n + 1) cs both.1)

facts_append : (ms ns : List Numbered) → AreFacts ms → AreFacts ns → AreFacts (ms ++ ns)
facts_append [] ns all more = more
facts_append (m ∷ ms) ns all more = (all.0, facts_append ms ns all.1 more)

-- a grounding of a well-formed clause
abbrev KeepsFacts : (ℕ → Numbered → Grounding) → Type 0
KeepsFacts make = (next : ℕ) (c : Numbered) → list_all is_fact c.1 ≡ true → AreFacts (make next c).clauses

each_facts : (make : ℕ → Numbered → Grounding) → KeepsFacts make → (next : ℕ) (ns : List Numbered) → AreFacts ns → AreFacts (ground_each make next ns).clauses
each_facts make keeps next [] all = tt
each_facts make keeps next (n ∷ ns) all =
    let g : Grounding = make next n in
    let rest : Grounding = ground_each make (next + length g.rows) ns in
    facts_append g.clauses rest.clauses (keeps next n all.0) (each_facts make keeps (next + length g.rows) ns all.1)

by_facts : (xs : List ℕ) → KeepsFacts (ground_by xs)
by_facts [] next c all = (all, tt)
by_facts (x ∷ xs) next c all =
    let rows : List Row = complete_rows c.0 x c.1 in
    let ns : List Numbered = enumerate_from next (map (row_clause c.1) rows) in
    let more : Grounding = then_ground (record { rows = rows; clauses = []; steps = complete_steps x c.1 }) (ground_each (ground_by xs) (next + length rows) ns) in
    let are = ap (list_all (list_all is_fact)) (complete_on x c.1 c.0) ∙ is_fact-complete x c.1 all in
    elim (occurs_in x c.1) as (λ b. AreFacts (let g : Grounding = elim b [ true ↦ more | false ↦ ground_by xs next c ] in g.clauses)) [
      | true ↦ each_facts (ground_by xs) (by_facts xs) (next + length rows) ns (enumerated_facts next (map (row_clause c.1) rows) are)
      | false ↦ by_facts xs next c all
    ]

pub grounding_facts : (pool : Pool) → list_all (list_all is_fact) pool.clauses ≡ true → AreFacts (grounding pool).clauses
grounding_facts pool all =
    each_facts (ground_clause pool.params) (λ next c is. by_facts (variables pool.params c.1) next c is) (length pool.clauses) (enumerate_from 0 pool.clauses) (enumerated_facts 0 pool.clauses all)
