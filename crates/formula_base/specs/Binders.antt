-- The binders of a formula, and their numbers.
use Rattle.std.specs.Prelude.{◌≡◌, ℕ, suc, List, [], ◌∷◌, ◌++◌}
use Rattle.std.specs.List.{flat_map}
use Rattle.term_base.specs.declared.variables.Variable.{Variable}
use Rattle.formula_base.specs.declared.formulas.Formula.{Formula}
use Rattle.formula_base.specs.declared.formulas.Formula.TheOpen as f
use Rattle.formula_base.specs.declared.formulas.Formula.TheOpen.{Formula-F}
use Rattle.formula_base.specs.declared.formulas.Formula.TheFolds.{fold-Formula}

abbrev pub binders_step : Formula-F (List Variable) → List Variable
binders_step f.True = []
binders_step f.False = []
binders_step (f.Atom t) = []
binders_step (f.Same s t) = []
binders_step (f.Less s t) = []
binders_step (f.LessEq s t) = []
binders_step (f.Not a) = a
binders_step (f.And gs) = flat_map (λ a. a) gs
binders_step (f.Or gs) = flat_map (λ a. a) gs
binders_step (f.Implies a b) = a ++ b
binders_step (f.Iff a b) = a ++ b
binders_step (f.All vs a) = vs ++ a
binders_step (f.Some vs a) = vs ++ a

-- the variables that a formula binds, in reading order
abbrev pub binders : Formula → List Variable
binders = fold-Formula (List Variable) binders_step

-- the variables have these numbers, from one on
abbrev pub AreNumbered : ℕ → List Variable → Type 0
AreNumbered n [] = Unit {0}
AreNumbered n (v ∷ vs) = (v.id ≡ n) × AreNumbered (suc n) vs

-- the id of each bound variable is the number of its binder, in reading order from 0
abbrev pub IsNumbered : Formula → Type 0
IsNumbered g = AreNumbered 0 (binders g)
