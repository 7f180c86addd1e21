-- Weight: 1 for a variable, and for a head 1 plus its arguments; so 2 plus its term for Scale.
use Rattle.std.specs.Prelude.{ℕ, ◌+◌, sum_by, List}
use Rattle.term_base.specs.Trees.{Tree, Trees, var, node, none, more}
use Rattle.term_base.specs.Lits.{Lit}

abbrev mutual
  pub weight : Tree → ℕ
  weight (var v) = 1
  weight (node f xs) = 1 + weight_all xs

  pub weight_all : Trees → ℕ
  weight_all none = 0
  weight_all (more x xs) = weight x + weight_all xs

-- a literal's weight is that of its sides
abbrev pub lit_weight : Lit → ℕ
lit_weight l = weight l.left + weight l.right

-- a clause's weight is that of its literals
abbrev pub clause_weight : List Lit → ℕ
clause_weight = sum_by lit_weight
