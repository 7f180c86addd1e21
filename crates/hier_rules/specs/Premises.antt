-- What the rules ask of their premises as they are.
use Rattle.std.specs.Prelude.{◌≡◌, ◌≢◌, ℕ, false, List, Some}
use Rattle.term_base.specs.declared.places.Place.{Place}
use Rattle.term_base.specs.declared.symbols.Symbol.{Symbol}
use Rattle.term_base.specs.declared.variables.Variable.{Variable}
use Rattle.term_base.specs.Trees.{Tree, var}
use Rattle.term_base.specs.Lits.{equal, differ, Lit}
use Rattle.term_base.specs.Places.{named, item, at_path}
use Rattle.term_base.specs.Clauses.{is_background}

-- the literal of the number is the equation l
pub record IsEquation (c : List Lit) (literal : ℕ) (l : Lit) : Type 0 where
  pub there : item literal c ≡ Some l
  pub equation : l.relation ≡ equal

-- the literal of the number is the disequation l
pub record IsDisequation (c : List Lit) (literal : ℕ) (l : Lit) : Type 0 where
  pub there : item literal c ≡ Some l
  pub disequation : l.relation ≡ differ

-- neither premise is a background clause, l is an equation of c, and the place of d is in its literal m and has the term u, which is no
-- variable
pub record Superposable (signature : List Symbol) (c d : List Lit) (literal : ℕ) (place : Place) (l m : Lit) (u : Tree) : Type 0 where
  pub first : is_background signature c ≡ false
  pub second : is_background signature d ≡ false
  pub from : IsEquation c literal l
  pub into : item place.literal d ≡ Some m
  pub there : at_path place.path (named place.side m) ≡ Some u
  pub no_variable : (v : Variable) → u ≢ var v

-- the premise is no background clause, and l is a disequation of it
pub record Resolvable (signature : List Symbol) (c : List Lit) (literal : ℕ) (l : Lit) : Type 0 where
  pub foreground : is_background signature c ≡ false
  pub from : IsDisequation c literal l

-- the premise is no background clause, and l and m are two equations of it
pub record Factorable (signature : List Symbol) (c : List Lit) (first second : ℕ) (l m : Lit) : Type 0 where
  pub foreground : is_background signature c ≡ false
  pub from : IsEquation c first l
  pub into : IsEquation c second m
  pub two : first ≢ second
