-- The check of values.
use Rattle.std.specs.Prelude.{ℕ, suc, ℤ, pos, Bool, ◌==◌, ◌&&◌, length, IsTrue, List, [], ◌∷◌, ◌++◌, map, if◌then◌else◌}
use Rattle.std.specs.List.{list_all}
use Rattle.lin_base.specs.declared.facts.Fact.{Fact}
use Rattle.lin_base.specs.declared.facts.Pool.{Pool}
use Rattle.lin_base.specs.declared.wides.Wide.{Wide}
use Rattle.lin_base.specs.Sum.{number}
use Rattle.lin_base.specs.Fact.{clause_holds}
use Rattle.lin_base.specs.Change.{replace}
use Rattle.lin_base.specs.Steps.{replace_all_steps, is_narrow}
use Rattle.cert_tree.specs.Counting.{occurs_in}
use Rattle.cert_tree.specs.Complete.{complete, complete_steps}
use Rattle.cert_tree.specs.Ground.{Grounding, ground_clause}

-- the clause with z for p, and its steps
abbrev pub at_value : ℕ → ℤ → List Fact → List Fact
at_value p z clause = map (replace p (pos 1) (number z)) clause

-- the literals in order
abbrev pub at_steps : ℕ → ℤ → List Fact → List Wide
at_steps p z clause = replace_all_steps p (pos 1) (number z) clause

-- the values put for the parameters from p on, one after the other
abbrev pub put_from : ℕ → List ℤ → List Fact → List Fact
put_from p [] clause = clause
put_from p (z ∷ values) clause = put_from (suc p) values (map (replace p (pos 1) (number z)) clause)

-- value by value, each in the clause as the earlier ones left it
abbrev pub put_steps_from : ℕ → List ℤ → List Fact → List Wide
put_steps_from p [] clause = []
put_steps_from p (z ∷ values) clause =
    replace_all_steps p (pos 1) (number z) clause ++ put_steps_from (suc p) values (map (replace p (pos 1) (number z)) clause)

-- the clause at the values, down to clauses without unknowns
abbrev pub grounded_at : ℕ → List ℤ → List Fact → Grounding
grounded_at params values clause = ground_clause params 0 (0, put_from 0 values clause)

-- of a clause: the values put, then Complete
abbrev pub check_steps : ℕ → List ℤ → List Fact → List Wide
check_steps params values clause = put_steps_from 0 values clause ++ (grounded_at params values clause).steps

-- each clause without unknowns is true, and no step leaves the range
abbrev pub clause_checks : ℕ → List ℤ → List Fact → Bool
clause_checks params values clause =
    is_narrow (check_steps params values clause) && list_all (λ c. clause_holds (λ x. pos 0) c.1) (grounded_at params values clause).clauses

-- one value per parameter, and the check says yes within the range
abbrev pub checks : Pool → List ℤ → Bool
checks pool values = length values == pool.params && list_all (clause_checks pool.params values) pool.clauses

-- the values hold for the pool
abbrev pub Holds : Pool → List ℤ → Type 0
Holds pool values = IsTrue (checks pool values)

-- the clauses without unknowns, down from a clause by these variables, are true and their steps stay in the range
abbrev pub ground_holds : List ℕ → List Fact → Bool
ground_holds [] clause = clause_holds (λ x. pos 0) clause
ground_holds (x ∷ xs) clause =
    if occurs_in x clause then is_narrow (complete_steps x clause) && list_all (ground_holds xs) (complete x clause) else ground_holds xs clause
