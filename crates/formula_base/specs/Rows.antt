-- Worked rows of the definitions.
use Rattle.std.specs.Prelude.{◌≡◌, true, false, [], ◌∷◌, refl}
use Rattle.term_base.specs.declared.symbols.Sort.TheVariants.{Int, Individual}
use Rattle.term_base.specs.declared.variables.Kind.TheVariants.{Abstraction, Ordinary}
use Rattle.term_base.specs.declared.variables.Variable.{Variable}
use Rattle.term_base.specs.declared.terms.Term.TheVariants as term
use Rattle.formula_base.specs.declared.formulas.Formula.{Formula}
use Rattle.formula_base.specs.declared.formulas.Formula.TheVariants as f
use Rattle.formula_base.specs.Binders.{binders, IsNumbered}
use Rattle.formula_base.specs.Typing.{is_typed}

-- the integer variable of the binder 0, an individual variable with that number, and the integer variable of the binder 1
abbrev pub x : Variable
x = record { kind = Abstraction; sort = Int; id = 0; proper = refl }

abbrev pub individual : Variable
individual = record { kind = Ordinary; sort = Individual; id = 0; proper = refl }

abbrev pub y : Variable
y = record { kind = Abstraction; sort = Int; id = 1; proper = refl }

-- Y < X
abbrev pub below : Formula
below = f.Less (term.Var y) (term.Var x)

-- ? [Y] : Y < X
abbrev pub some_below : Formula
some_below = f.Some (y ∷ []) below

-- ! [X] : ? [Y] : Y < X
abbrev pub bounded_below : Formula
bounded_below = f.All (x ∷ []) some_below

-- it binds X and then Y
abbrev pub Bound : Type 0
Bound = binders bounded_below ≡ x ∷ y ∷ []

-- they have the numbers 0 and 1
abbrev pub Numbered : Type 0
Numbered = IsNumbered bounded_below

-- it is well typed
abbrev pub Typed : Type 0
Typed = is_typed [] bounded_below [] ≡ true

-- without its outer quantifier it isn't, since X is not bound
abbrev pub Unbound : Type 0
Unbound = is_typed [] some_below [] ≡ false

-- nor is it where an inner binder of another sort has the number of X
abbrev pub Hidden : Type 0
Hidden = is_typed [] (f.All (x ∷ []) (f.All (individual ∷ []) some_below)) [] ≡ false
