-- What makes two trees equal: simple substitutions in one clause, and pairs of them over two clauses whose variables are
-- apart.
use Rattle.std.specs.Prelude.{◌≡◌, ◌<◌, ℕ, Bool, true, false, ◌||◌, List}
use Rattle.term_base.specs.declared.symbols.Symbol.{Symbol}
use Rattle.term_base.specs.declared.variables.Variable.{Variable}
use Rattle.term_base.specs.Trees.{Tree, var, occurs}
use Rattle.term_base.specs.Substitution.{put_in, Simple}
use Rattle.unifier.specs.Variables.{has}

-- the variables of a tree, and those of a list
abbrev pub occurs_or : Tree → List Variable → Variable → Bool
occurs_or t others v = occurs v t || has others v

-- the variables of two trees, and those of a list
abbrev pub occurs_either_or : Tree → Tree → List Variable → Variable → Bool
occurs_either_or l u others v = occurs v l || occurs_or u others v

-- s is simple and makes l and u equal, and every simple substitution that does so is s followed by one simple
-- substitution, on the variables of V
pub record IsMostGeneral (signature : List Symbol) (V : Variable → Bool) (l u : Tree) (s : Variable → Tree) : Type 0 where
  pub simple : Simple signature s
  pub equal : put_in s l ≡ put_in s u
  pub general : (r : Variable → Tree) → Simple signature r → put_in r l ≡ put_in r u
      → (q : Variable → Tree) × (Simple signature q × ((v : Variable) → V v ≡ true → put_in q (s v) ≡ r v))

-- no simple substitution makes the trees equal
abbrev pub NoUnifier : List Symbol → Tree → Tree → Type 0
NoUnifier signature l u = (r : Variable → Tree) → Simple signature r → put_in r l ≡ put_in r u → ⊥

-- s1 and s2 are simple, s1 makes l into what s2 makes u into, and every such pair is this pair followed by one simple
-- substitution, on the variables of V1 and of V2
pub record IsMostGeneralPair (signature : List Symbol) (V1 V2 : Variable → Bool) (l u : Tree) (s1 s2 : Variable → Tree) : Type 0 where
  pub simple1 : Simple signature s1
  pub simple2 : Simple signature s2
  pub equal : put_in s1 l ≡ put_in s2 u
  pub general : (r1 r2 : Variable → Tree) → Simple signature r1 → Simple signature r2 → put_in r1 l ≡ put_in r2 u
      → (q : Variable → Tree) × (Simple signature q
      × (((v : Variable) → V1 v ≡ true → put_in q (s1 v) ≡ r1 v) × ((v : Variable) → V2 v ≡ true → put_in q (s2 v) ≡ r2 v)))

-- no pair of simple substitutions makes the trees equal
abbrev pub NoPair : List Symbol → Tree → Tree → Type 0
NoPair signature l u = (r1 r2 : Variable → Tree) → Simple signature r1 → Simple signature r2 → put_in r1 l ≡ put_in r2 u → ⊥

-- z stands in the image of a variable of V
pub record IsInImage (V : Variable → Bool) (s : Variable → Tree) (z : Variable) : Type 0 where
  pub from : Variable
  pub within : V from ≡ true
  pub below : occurs z (s from) ≡ true

-- the variables of which In holds have the numbers from 0 on, each its own
pub record AreNumbered (In : Variable → Type 0) : Type 0 where
  pub own : (z w : Variable) → In z → In w → z.id ≡ w.id → z ≡ w
  pub all : (z : Variable) → In z → (n : ℕ) → n < z.id → (w : Variable) × (In w × (w.id ≡ n))

-- no simple substitution makes p into t
abbrev pub NoMatch : List Symbol → Tree → Tree → Type 0
NoMatch signature p t = (r : Variable → Tree) → Simple signature r → put_in r p ≡ t → ⊥

-- whatever makes p into t puts for p's variables what s puts for them, and s keeps all other variables
pub record IsOnlyCandidate (p t : Tree) (s : Variable → Tree) : Type 0 where
  pub agrees : (r : Variable → Tree) → put_in r p ≡ t → (v : Variable) → occurs v p ≡ true → s v ≡ r v
  pub keeps : (v : Variable) → occurs v p ≡ false → s v ≡ var v
