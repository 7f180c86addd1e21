-- The rows of Complete literal by literal, with their clauses, and the answer of a call that grounds.
use Rattle.std.specs.Prelude.{◌≡◌, ℕ, ℤ, pos, ◌*ℤ◌, Bool, length, List, [], ◌++◌, map, Option, Some, None, Result, if◌then◌else◌}
use Rattle.std.specs.List.{list_all, list_any, flat_map}
use Rattle.lin_base.specs.declared.sums.Lin.{Lin}
use Rattle.lin_base.specs.declared.facts.Fact.{Fact}
use Rattle.lin_base.specs.declared.wides.Wide.{Wide}
use Rattle.lin_base.specs.Fact.{is_fact}
use Rattle.lin_base.specs.Numbers.{results}
use Rattle.lin_base.specs.Sum.{add_number, above}
use Rattle.cert_tree.specs.declared.certs.Row.{Row}
use Rattle.cert_tree.specs.declared.certs.Row.TheVariants.{Inst, Low}
use Rattle.cert_tree.specs.declared.sums.Side.{Side as Parts}
use Rattle.cert_tree.specs.Complete.{upper, uppers_steps, lows_steps}
use Rattle.cert_tree.specs.Counting.{numbers_below}
use Rattle.cert_tree.specs.Ground.{Numbered, Grounding}
use Rattle.cert_tree.specs.Points.{Side}
use Rattle.cert_tree.specs.Rows.{bounds_above, row_clause}
use Rattle.cert_tree.specs.Sides.{side_of}
use Rattle.cooper_rows.specs.declared.completing.Completed.{Completed}
use Rattle.cooper_rows.specs.declared.completing.Step.{Step}
use Rattle.cooper_rows.specs.declared.counting.BudgetError.{BudgetError}
use Rattle.cooper_rows.specs.declared.grounding.GroundPool.{GroundPool}
use Rattle.cooper_rows.specs.Counted.{Counted}

-- ---- rows with their clauses
-- rows on a clause, and the clause that each gives
abbrev pub completed : List Fact → List Row → Completed
completed clause rows = record { rows = rows; clauses = map (row_clause clause) rows }

-- one of them
abbrev pub step_of : List Fact → Row → Step
step_of clause row = record { row = row; clause = row_clause clause row }

-- ---- Complete, literal by literal
-- the row at b*x = s + j
abbrev pub moved_row : ℕ → ℕ → ℤ → Lin → ℕ → Row
moved_row n x b s j = Inst n x b (add_number s (pos j))

-- those above b*x + rest
abbrev pub bound_rows : ℕ → ℕ → ℤ → Parts → List Row
bound_rows n x d e = map (moved_row n x e.b (above e.rest)) (numbers_below (e.b *ℤ d))

-- those above the bound that a literal is, if it is one
abbrev pub literal_rows : ℕ → ℕ → ℤ → Option Side → List Row
literal_rows n x d None = []
literal_rows n x d (Some e) = bound_rows n x d (side_of e)

-- of the literals in order
abbrev pub uppers_rows : ℕ → ℕ → ℤ → List Fact → List Row
uppers_rows n x d fs = flat_map (λ f. literal_rows n x d (upper x f)) fs

-- far down at these remainders
abbrev pub low_rows : ℕ → ℕ → List ℕ → List Row
low_rows n x js = map (λ j. Low n x (pos j)) js

-- none where a literal bounds x above
abbrev pub lows_rows : ℕ → ℕ → ℤ → List Fact → List Row
lows_rows n x d clause = if list_any (bounds_above x) clause then [] else low_rows n x (numbers_below d)

-- with this period
abbrev pub rows_by : ℕ → ℕ → ℤ → List Fact → List Row
rows_by n x d clause = uppers_rows n x d clause ++ lows_rows n x d clause

-- their steps
abbrev pub rows_steps : ℕ → ℤ → List Fact → List Wide
rows_steps x d clause = uppers_steps x clause d clause ++ lows_steps x clause d

-- ---- Ground
-- each clause consists of well-formed facts
abbrev pub are_facts : List Numbered → Bool
are_facts cs = list_all (λ c. list_all is_fact c.1) cs

-- the rows and clauses of a grounding
abbrev pub IsGround : GroundPool → Grounding → Type 0
IsGround made g = (made.rows ≡ g.rows) × (made.clauses ≡ g.clauses)

-- the answer of a call that grounds: as many rows are counted, and the steps stay in the range
abbrev pub Grounded : Result GroundPool BudgetError → ℕ → ℕ → Grounding → Type 0
Grounded r old new g = Counted r old new (length g.rows) (results g.steps) (λ made. IsGround made g)
