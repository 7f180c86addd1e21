-- The numbers of symbols in terms and clauses, and terms without variables.
use Rattle.std.specs.Prelude.{ℕ, Bool, true, false, ◌≡◌, ◌&&◌, nat_lt, List}
use Rattle.std.specs.List.{list_all}
use Rattle.term_base.specs.declared.variables.Variable.{Variable}
use Rattle.term_base.specs.Trees.{Head, truth, number, plus, times, symbol, Tree, Trees, var, node, none, more}
use Rattle.term_base.specs.Lits.{Lit}

-- a symbol's number is below n; any other head is there
abbrev pub is_known_head : ℕ → Head → Bool
is_known_head n (symbol f) = nat_lt f n
is_known_head n truth = true
is_known_head n (number k) = true
is_known_head n plus = true
is_known_head n times = true

-- each symbol of a term, and of arguments, has a number below n
abbrev mutual
  pub is_known : ℕ → Tree → Bool
  is_known n (var v) = true
  is_known n (node f xs) = is_known_head n f && are_known n xs

  pub are_known : ℕ → Trees → Bool
  are_known n none = true
  are_known n (more x xs) = is_known n x && are_known n xs

abbrev pub is_known_lit : ℕ → Lit → Bool
is_known_lit n l = is_known n l.left && is_known n l.right

-- each symbol of a clause has a number below n
abbrev pub is_known_clause : ℕ → List Lit → Bool
is_known_clause n = list_all (is_known_lit n)

-- every variable goes to a term whose symbols have numbers below n
abbrev pub KnownImages : ℕ → (Variable → Tree) → Type 0
KnownImages n s = (v : Variable) → is_known n (s v) ≡ true

-- no variable is in a term, and in arguments
abbrev mutual
  pub is_ground : Tree → Bool
  is_ground (var v) = false
  is_ground (node f xs) = are_ground xs

  pub are_ground : Trees → Bool
  are_ground none = true
  are_ground (more x xs) = is_ground x && are_ground xs
