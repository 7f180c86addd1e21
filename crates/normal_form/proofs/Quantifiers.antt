-- Whether a formula has a quantifier.
use Rattle.std.specs.Prelude.{Bool, true, false, ◌||◌}
use Rattle.std.specs.List.{list_any}
use Rattle.formula_base.specs.declared.formulas.Formula.{Formula}
use Rattle.formula_base.specs.declared.formulas.Formula.TheOpen as f
use Rattle.formula_base.specs.declared.formulas.Formula.TheOpen.{Formula-F}
use Rattle.formula_base.specs.declared.formulas.Formula.TheFolds.{fold-Formula}

abbrev pub quantified_step : Formula-F Bool → Bool
quantified_step f.True = false
quantified_step f.False = false
quantified_step (f.Atom s) = false
quantified_step (f.Same s u) = false
quantified_step (f.Less s u) = false
quantified_step (f.LessEq s u) = false
quantified_step (f.Not a) = a
quantified_step (f.And gs) = list_any (λ a. a) gs
quantified_step (f.Or gs) = list_any (λ a. a) gs
quantified_step (f.Implies a b) = a || b
quantified_step (f.Iff a b) = a || b
quantified_step (f.All vs a) = true
quantified_step (f.Some vs a) = true

-- a quantifier is in the formula
abbrev pub is_quantified : Formula → Bool
is_quantified = fold-Formula Bool quantified_step
