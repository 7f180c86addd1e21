-- The tree of each variant of a term.
use Rattle.std.proofs.Common.{◌≡◌, ℕ, List, map}
use Rattle.std.specs.Prelude.{ℤ}
use Rattle.term_base.specs.declared.terms.Term.{Term}
use Rattle.term_base.specs.declared.terms.Term.TheVariants.{Var, Num, True, Sum, Scale, App}
use Rattle.term_base.specs.declared.variables.Variable.{Variable}
use Rattle.term_base.specs.Trees.{Tree, var, node, none, more, truth, number, plus, times, symbol, trees, tree, tree_step}
use Rattle.term_base.specs.TermFolds.{fold-Var, fold-Num, fold-True, fold-Sum, fold-Scale, fold-App}

pub tree-Var : (v : Variable) → tree (Var v) ≡ var v
tree-Var v = fold-Var Tree tree_step v

pub tree-Num : (n : ℤ) → tree (Num n) ≡ node (number n) none
tree-Num n = fold-Num Tree tree_step n

pub tree-True : tree True ≡ node truth none
tree-True = fold-True Tree tree_step

pub tree-Sum : (a b : Term) → tree (Sum a b) ≡ node plus (more (tree a) (more (tree b) none))
tree-Sum a b = fold-Sum Tree tree_step a b

pub tree-Scale : (k : ℤ) (a : Term) → tree (Scale k a) ≡ node times (more (node (number k) none) (more (tree a) none))
tree-Scale k a = fold-Scale Tree tree_step k a

pub tree-App : (f : ℕ) (ts : List Term) → tree (App f ts) ≡ node (symbol f) (trees (map tree ts))
tree-App f ts = fold-App Tree tree_step f ts
