-- A term as a tree: a variable, or a head over its arguments. Scale(k, t) has the arguments Num k and t.
use Rattle.std.specs.Prelude.{◌≡◌, ◌⊎◌, ℕ, ℤ, Bool, true, false, ◌&&◌, ◌||◌, ◌==◌, List, [], ◌∷◌}
use Rattle.std.specs.Ordering.{int_eq}
use Rattle.term_base.specs.declared.terms.Term.{Term}
use Rattle.term_base.specs.declared.terms.Term.TheOpen.{Term-F, Var, Num, True, Sum, Scale, App}
use Rattle.term_base.specs.declared.terms.Term.TheFolds.{fold-Term}
use Rattle.term_base.specs.declared.variables.Variable.{Variable}
use Rattle.term_base.specs.Same.{same_variable}

-- what stands at the top of a term that is no variable
pub data Head : Type 0 where
  truth : Head
  number : ℤ → Head
  plus : Head
  times : Head
  symbol : ℕ → Head

mutual
  pub data Tree : Type 0 where
    var : Variable → Tree
    node : Head → Trees → Tree

  pub data Trees : Type 0 where
    none : Trees
    more : Tree → Trees → Trees

abbrev pub trees : List Tree → Trees
trees [] = none
trees (t ∷ ts) = more t (trees ts)

-- one layer of a term, whose parts are trees already
abbrev pub tree_step : Term-F Tree → Tree
tree_step (Var v) = var v
tree_step (Num n) = node (number n) none
tree_step True = node truth none
tree_step (Sum a b) = node plus (more a (more b none))
tree_step (Scale k a) = node times (more (node (number k) none) (more a none))
tree_step (App f args) = node (symbol f) (trees args)

-- the tree of a term
abbrev pub tree : Term → Tree
tree = fold-Term Tree tree_step

-- a tree is one of the arguments
abbrev pub Member : Tree → Trees → Type 0
Member t none = ⊥
Member t (more x xs) = (x ≡ t) ⊎ Member t xs

-- whether a tree is a variable
abbrev pub is_variable : Tree → Bool
is_variable (var v) = true
is_variable (node f xs) = false

-- whether two heads are one
abbrev pub same_head : Head → Head → Bool
same_head truth truth = true
same_head (number m) (number n) = int_eq m n
same_head plus plus = true
same_head times times = true
same_head (symbol f) (symbol g) = f == g
same_head _ _ = false

-- whether two trees are one
abbrev mutual
  pub same_tree : Tree → Tree → Bool
  same_tree (var v) (var w) = same_variable v w
  same_tree (node f xs) (node g ys) = same_head f g && same_trees xs ys
  same_tree _ _ = false

  pub same_trees : Trees → Trees → Bool
  same_trees none none = true
  same_trees (more x xs) (more y ys) = same_tree x y && same_trees xs ys
  same_trees _ _ = false

-- whether a variable is in a tree
abbrev mutual
  pub occurs : Variable → Tree → Bool
  occurs v (var w) = same_variable w v
  occurs v (node f xs) = any_occurs v xs

  pub any_occurs : Variable → Trees → Bool
  any_occurs v none = false
  any_occurs v (more x xs) = occurs v x || any_occurs v xs
