-- What the rules ask of the instances of their premises, and what each rule gives.
use Rattle.std.specs.Prelude.{◌≡◌, ◌≢◌, ◌⊎◌, ℕ, List, ◌++◌}
use Rattle.term_base.specs.declared.places.Place.{Place}
use Rattle.term_base.specs.declared.places.Side.{Side}
use Rattle.term_base.specs.declared.symbols.Symbol.{Symbol}
use Rattle.term_base.specs.Trees.{Tree}
use Rattle.term_base.specs.Purity.{IsPure}
use Rattle.term_base.specs.Lits.{at_most, Lit, disequation}
use Rattle.term_base.specs.Places.{named, other, left_out, changed, replaced}
use Rattle.term_order.specs.Above.{Above}
use Rattle.term_order.specs.Literals.{IsMaximal}

-- ---- the order, of instances

-- t is above s, or equal to it
abbrev pub AtLeast : List Symbol → Tree → Tree → Type 0
AtLeast signature t s = Above signature t s ⊎ (t ≡ s)

-- the named side is neither below the other side nor equal to it
abbrev pub IsNotBelow : List Symbol → Side → Lit → Type 0
IsNotBelow signature side l = AtLeast signature (other side l) (named side l) → ⊥

-- of the equation l, a literal of c, the named side isn't Pure, the other side is neither above it nor equal to it, and the literal is
-- maximal
pub record ReplacesBy (signature : List Symbol) (c : List Lit) (literal : ℕ) (side : Side) (l : Lit) : Type 0 where
  pub not_pure : IsPure signature (named side l) → ⊥
  pub not_below : IsNotBelow signature side l
  pub maximal : IsMaximal signature c literal

-- the literal m of d with the place is maximal; in an equation or a disequation the side without the place is neither above the side with
-- it nor equal to it
pub record ReplacedIn (signature : List Symbol) (d : List Lit) (place : Place) (m : Lit) : Type 0 where
  pub not_below : m.relation ≢ at_most → IsNotBelow signature place.side m
  pub maximal : IsMaximal signature d place.literal

-- the sides of the disequation l, a literal of c, aren't Pure, and the literal is maximal
pub record ResolvesBy (signature : List Symbol) (c : List Lit) (literal : ℕ) (l : Lit) : Type 0 where
  pub not_pure : IsPure signature l.left → ⊥
  pub maximal : IsMaximal signature c literal

-- ---- the clauses, of instances

-- the rest of c, then d with the equation's other side at the place
abbrev pub superposed : List Lit → List Lit → ℕ → Side → Place → Lit → List Lit
superposed c d literal side place l = left_out literal c ++ replaced d place (other side l)

-- c, with the disequation of the other sides in place of the second equation
abbrev pub factored : List Lit → Side → ℕ → Side → Lit → Lit → List Lit
factored c first_side second second_side l m = changed second (disequation (other first_side l) (other second_side m)) c
