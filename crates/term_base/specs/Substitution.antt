-- Simultaneous substitution.
use Rattle.std.specs.Prelude.{◌≡◌, ◌≢◌, All, AllPairs, true, List, [], ◌∷◌, Some, if◌then◌else◌}
use Rattle.std.specs.declared.cmp.Ordering.TheVariants.{Less}
use Rattle.term_base.specs.declared.symbols.Symbol.{Symbol}
use Rattle.term_base.specs.declared.variables.Variable.{Variable}
use Rattle.term_base.specs.declared.terms.Term.{Term}
use Rattle.term_base.specs.declared.terms.Term.TheVariants as term
use Rattle.term_base.specs.Same.{same_variable}
use Rattle.term_base.specs.VariableOrder.{variable_cmp}
use Rattle.term_base.specs.Trees.{Tree, Trees, var, node, none, more, tree}
use Rattle.term_base.specs.Sorting.{sort}
use Rattle.term_base.specs.Purity.{is_abstraction, IsPure}

-- the tree with each variable's image in its place; images are not looked into again
abbrev mutual
  pub put_in : (Variable → Tree) → Tree → Tree
  put_in s (var v) = s v
  put_in s (node f xs) = node f (put_all s xs)

  pub put_all : (Variable → Tree) → Trees → Trees
  put_all s none = none
  put_all s (more x xs) = more (put_in s x) (put_all s xs)

-- what stands for a variable: the term beside it, or the variable itself
abbrev pub image : List (Variable × Term) → Variable → Tree
image [] v = var v
image (p ∷ rest) v = if same_variable p.0 v then tree p.1 else image rest v

-- t for v
abbrev pub single : Variable → Tree → Variable → Tree
single v t w = if same_variable v w then t else var w

-- distinct variables in ascending order, and none for itself
pub record IsSubstitution (pairs : List (Variable × Term)) : Type 0 where
  pub ascending : AllPairs (λ p q. variable_cmp p.0 q.0 ≡ Less) pairs
  pub moves : All (λ p. p.1 ≢ term.Var p.0) pairs

-- each variable goes to a term of its sort, and each abstraction variable to a pure one
pub record Simple (signature : List Symbol) (s : Variable → Tree) : Type 0 where
  pub sorted : (v : Variable) → sort signature (s v) ≡ Some v.sort
  pub pure : (v : Variable) → is_abstraction v ≡ true → IsPure signature (s v)
