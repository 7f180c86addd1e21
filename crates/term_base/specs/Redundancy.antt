-- Tautologies, and clauses that another clause covers.
use Rattle.std.specs.Prelude.{◌≡◌, ◌⊎◌, List}
use Rattle.term_base.specs.declared.symbols.Symbol.{Symbol}
use Rattle.term_base.specs.declared.variables.Variable.{Variable}
use Rattle.term_base.specs.Trees.{Tree}
use Rattle.term_base.specs.Substitution.{Simple}
use Rattle.term_base.specs.Lits.{differ, Lit, equation, disequation, inequality, put_clause, Among, EachLit}

-- some literal is t = t or t <= t, or an equation and a disequation have the same two sides in either order
pub data Tautology (c : List Lit) : Type 0 where
  equals_itself : (t : Tree) → Among (equation t t) c → Tautology c
  at_most_itself : (t : Tree) → Among (inequality t t) c → Tautology c
  opposed : (s t : Tree) → Among (equation s t) c → Among (disequation s t) c → Tautology c
  opposed_crosswise : (s t : Tree) → Among (equation s t) c → Among (disequation t s) c → Tautology c

-- the literal is t != t
pub record DiffersFromItself (l : Lit) : Type 0 where
  pub differs : l.relation ≡ differ
  pub sides : l.left ≡ l.right

-- for some simple substitution each literal of e under it is a literal of k or is t != t
pub record Covers (signature : List Symbol) (e k : List Lit) : Type 0 where
  pub by : Variable → Tree
  pub simple : Simple signature by
  pub each : EachLit (λ l. Among l k ⊎ DiffersFromItself l) (put_clause by e)

-- the same by a substitution that is given
pub record CoversBy (signature : List Symbol) (s : Variable → Tree) (e k : List Lit) : Type 0 where
  pub simple : Simple signature s
  pub each : EachLit (λ l. Among l k ⊎ DiffersFromItself l) (put_clause s e)
