-- The rows Inst and Low.
use Rattle.std.specs.Prelude.{ℕ, pos, Bool, false, not, ◌==◌, ◌&&◌, ◌||◌, nat_lt, nat_le, int_le, ℤ, List, [], ◌∷◌, ◌++◌, map, Option, Some, None, slice_get, if◌then◌else◌}
use Rattle.std.specs.List.{filter, list_any}
use Rattle.lin_base.specs.declared.sums.Lin.{Lin}
use Rattle.lin_base.specs.declared.facts.Fact.{Fact}
use Rattle.lin_base.specs.declared.facts.Fact.TheVariants.{AtMostZero, Zero}
use Rattle.lin_base.specs.declared.wides.Wide.{Wide}
use Rattle.lin_base.specs.Whole.{is_positive, is_zero}
use Rattle.lin_base.specs.Sum.{coef, each_unknown, number}
use Rattle.lin_base.specs.Fact.{is_lin}
use Rattle.lin_base.specs.Change.{replace}
use Rattle.lin_base.specs.Steps.{replace_all_steps, is_narrow}
use Rattle.cert_tree.specs.declared.certs.Row.{Row}
use Rattle.cert_tree.specs.declared.certs.Row.TheVariants.{Inst, Low}
use Rattle.cert_tree.specs.Counting.{occurs_in}
use Rattle.cert_tree.specs.Narrow.{option_then}
use Rattle.cert_tree.specs.Points.{not_divides_part}

-- x is no parameter and occurs in the clause
abbrev pub is_variable_of : ℕ → ℕ → List Fact → Bool
is_variable_of params x clause = nat_le params x && occurs_in x clause

-- a parameter, or another variable of the clause than x
abbrev pub may_stand_for : ℕ → ℕ → List Fact → ℕ → Bool
may_stand_for params x clause y = nat_lt y params || not (y == x) && occurs_in y clause

-- an AtMostZero literal with a positive coefficient at x
abbrev pub bounds_above : ℕ → Fact → Bool
bounds_above x (AtMostZero t) = is_positive (coef x t)
bounds_above x _ = false

-- an AtMostZero or Zero literal with x
abbrev pub falls_out : ℕ → Fact → Bool
falls_out x (AtMostZero t) = not (is_zero (coef x t))
falls_out x (Zero t) = not (is_zero (coef x t))
falls_out x _ = false

-- the literals that are no AtMostZero or Zero facts with x
abbrev pub stays_in : ℕ → List Fact → List Fact
stays_in x clause = filter (λ f. not (falls_out x f)) clause

-- the clause's number
abbrev pub clause_of : Row → ℕ
clause_of (Inst n x a t) = n
clause_of (Low n x j) = n

-- a is at least 1, and t a sum over parameters and other variables of the clause
abbrev pub instance_is_allowed : ℕ → List Fact → ℕ → ℤ → Lin → Bool
instance_is_allowed params clause x a t =
    is_variable_of params x clause && int_le (pos 1) a && is_lin t && each_unknown (may_stand_for params x clause) t

-- no AtMostZero literal bounds x above
abbrev pub low_is_allowed : ℕ → List Fact → ℕ → Bool
low_is_allowed params clause x = is_variable_of params x clause && not (list_any (bounds_above x) clause)

-- the condition of the row
abbrev pub row_is_allowed : ℕ → List Fact → Row → Bool
row_is_allowed params clause (Inst n x a t) = instance_is_allowed params clause x a t
row_is_allowed params clause (Low n x j) = low_is_allowed params clause x

-- the clause at a*x = t
abbrev pub instance_at : ℕ → ℤ → Lin → List Fact → List Fact
instance_at x a t clause = not_divides_part a t ++ map (replace x a t) clause

-- the clause at numbers for x that are far down and j modulo the period
abbrev pub low_at : ℕ → ℤ → List Fact → List Fact
low_at x j clause = map (replace x (pos 1) (number j)) (stays_in x clause)

-- the literals that stay, in order
abbrev pub low_steps : ℕ → ℤ → List Fact → List Wide
low_steps x j clause = replace_all_steps x (pos 1) (number j) (stays_in x clause)

-- the clause that the row gives
abbrev pub row_clause : List Fact → Row → List Fact
row_clause clause (Inst n x a t) = instance_at x a t clause
row_clause clause (Low n x j) = low_at x j clause

-- the literals in order
abbrev pub row_steps : List Fact → Row → List Wide
row_steps clause (Inst n x a t) = replace_all_steps x a t clause
row_steps clause (Low n x j) = low_steps x j clause

-- the condition holds, and no step leaves the range
abbrev pub row_stands_on : ℕ → List Fact → Row → Bool
row_stands_on params clause row = row_is_allowed params clause row && is_narrow (row_steps clause row)

-- the clause that a row Inst or Low gives, where it stands
abbrev pub instance_on : ℕ → List Fact → ℕ → ℤ → Lin → Option (List Fact)
instance_on params clause x a t =
    if instance_is_allowed params clause x a t && is_narrow (replace_all_steps x a t clause) then Some (instance_at x a t clause) else None

-- the clause that a row Low gives, where it stands
abbrev pub low_on : ℕ → List Fact → ℕ → ℤ → Option (List Fact)
low_on params clause x j =
    if low_is_allowed params clause x && is_narrow (low_steps x j clause) then Some (low_at x j clause) else None

-- the clause that the row gives over these clauses, where it stands
abbrev pub row_on : ℕ → Row → Option (List Fact) → Option (List Fact)
row_on params row None = None
row_on params row (Some clause) = if row_stands_on params clause row then Some (row_clause clause row) else None

-- that over the clause of its number
abbrev pub row_over : ℕ → List (List Fact) → Row → Option (List Fact)
row_over params clauses row = row_on params row (slice_get clauses (clause_of row))

-- the clauses, and after them those that the rows give, one after the other
abbrev pub extended : ℕ → List Row → List (List Fact) → Option (List (List Fact))
extended params [] clauses = Some clauses
extended params (row ∷ rows) clauses =
    option_then (row_over params clauses row) (λ clause. extended params rows (clauses ++ clause ∷ []))
