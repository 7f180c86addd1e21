-- Two trees side by side: the variables of the one, each beside the part of the other that stands at its place.
use Rattle.std.specs.Prelude.{Bool, true, false, ◌==◌, List, [], ◌∷◌, ◌++◌, if◌then◌else◌}
use Rattle.term_base.specs.declared.variables.Variable.{Variable}
use Rattle.term_base.specs.Trees.{Head, truth, number, plus, times, symbol, Tree, Trees, var, node, none, more}

-- whether two heads are of one form, and one symbol where they are symbols
abbrev pub is_alike : Head → Head → Bool
is_alike truth truth = true
is_alike (number m) (number n) = true
is_alike plus plus = true
is_alike times times = true
is_alike (symbol f) (symbol g) = f == g
is_alike _ _ = false

abbrev mutual
  pub beside : Tree → Tree → List (Variable × Tree)
  beside (var v) t = (v, t) ∷ []
  beside (node f xs) (var w) = []
  beside (node f xs) (node g ys) = if is_alike f g then all_beside xs ys else []

  pub all_beside : Trees → Trees → List (Variable × Tree)
  all_beside none ys = []
  all_beside (more x xs) none = []
  all_beside (more x xs) (more y ys) = beside x y ++ all_beside xs ys
