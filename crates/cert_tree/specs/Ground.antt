-- Ground of a pool: Complete, down to clauses without variables.
use Rattle.std.specs.Prelude.{ℕ, ◌+◌, true, false, nat_le, length, List, [], ◌∷◌, ◌++◌, map}
use Rattle.std.specs.List.{filter, enumerate_from}
use Rattle.lin_base.specs.declared.facts.Fact.{Fact}
use Rattle.lin_base.specs.declared.facts.Pool.{Pool}
use Rattle.lin_base.specs.declared.wides.Wide.{Wide}
use Rattle.lin_base.specs.Unknowns.{unknowns_of}
use Rattle.lin_base.specs.Fact.{sum_of}
use Rattle.cert_tree.specs.declared.certs.Row.{Row}
use Rattle.cert_tree.specs.Counting.{occurs_in}
use Rattle.cert_tree.specs.Rows.{row_clause}
use Rattle.cert_tree.specs.Complete.{complete_rows, complete_steps}

-- the unknowns of several facts, ascending
abbrev pub unknowns : List Fact → List ℕ
unknowns facts = unknowns_of (map sum_of facts)

-- the unknowns that are no parameters, ascending
abbrev pub variables : ℕ → List Fact → List ℕ
variables params clause = filter (λ x. nat_le params x) (unknowns clause)

-- ---- Ground
-- a clause with its number in the pool that the rows extend
abbrev pub Numbered : Type 0
Numbered = ℕ × List Fact

-- the rows that ground clauses, what is left of the clauses, and the steps
pub record Grounding : Type 0 where
  pub rows : List Row
  pub clauses : List Numbered
  pub steps : List Wide

-- one after the other
abbrev pub then_ground : Grounding → Grounding → Grounding
then_ground g h = record { rows = g.rows ++ h.rows; clauses = g.clauses ++ h.clauses; steps = g.steps ++ h.steps }

-- the clauses in order; the next row has the number next
abbrev pub ground_each : (ℕ → Numbered → Grounding) → ℕ → List Numbered → Grounding
ground_each grounding next [] = record { rows = []; clauses = []; steps = [] }
ground_each grounding next (c ∷ cs) =
    let g = grounding next c in then_ground g (ground_each grounding (next + length g.rows) cs)

-- a clause, replaced by Complete for the first of these variables that it has
abbrev pub ground_by : List ℕ → ℕ → Numbered → Grounding
ground_by [] next c = record { rows = []; clauses = c ∷ []; steps = [] }
ground_by (x ∷ xs) next c = elim (occurs_in x c.1) [
  | true ↦
      let rows = complete_rows c.0 x c.1 in
      then_ground (record { rows = rows; clauses = []; steps = complete_steps x c.1 })
      (ground_each (ground_by xs) (next + length rows) (enumerate_from next (map (row_clause c.1) rows)))
  | false ↦ ground_by xs next c
]

-- a clause, by its variables from the least on
abbrev pub ground_clause : ℕ → ℕ → Numbered → Grounding
ground_clause params next c = ground_by (variables params c.1) next c

-- of a pool; the first row has the number after the last clause
abbrev pub grounding : Pool → Grounding
grounding pool = ground_each (ground_clause pool.params) (length pool.clauses) (enumerate_from 0 pool.clauses)
