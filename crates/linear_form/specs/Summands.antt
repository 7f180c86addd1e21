-- The summands of terms of integers: the maximal subterms other than numbers, sums and multiples.
use Rattle.std.specs.Prelude.{ℕ, suc, Bool, false, ◌||◌, List, [], ◌∷◌, ◌++◌, fold, if◌then◌else◌}
use Rattle.term_base.specs.Trees.{Head, truth, number, plus, times, symbol, Tree, Trees, var, node, none, more, same_tree}

-- those of a head's term, by those of its arguments
abbrev pub gathered : Tree → Head → List (List Tree) → List Tree
gathered t truth parts = t ∷ []
gathered t (number n) parts = []
gathered t plus (a ∷ b ∷ []) = a ++ b
gathered t plus _ = t ∷ []
gathered t times (k ∷ a ∷ []) = a
gathered t times _ = t ∷ []
gathered t (symbol f) parts = t ∷ []

-- those of a term from the left, as often as they stand there, and those of each argument
abbrev mutual
  pub summands_in : Tree → List Tree
  summands_in (var v) = var v ∷ []
  summands_in (node f xs) = gathered (node f xs) f (summands_of_each xs)

  pub summands_of_each : Trees → List (List Tree)
  summands_of_each none = []
  summands_of_each (more x xs) = summands_in x ∷ summands_of_each xs

-- the term is one of these
abbrev pub is_among : Tree → List Tree → Bool
is_among t [] = false
is_among t (u ∷ us) = same_tree u t || is_among t us

-- a term is added behind those before it, where it isn't one of them
abbrev pub add_new : List Tree → Tree → List Tree
add_new ts t = if is_among t ts then ts else ts ++ t ∷ []

-- the summands of the left side, then those of the right side, each once, in the order of first places
abbrev pub summands : Tree → Tree → List Tree
summands s t = fold add_new [] (summands_in s ++ summands_in t)

-- how many terms stand before a term
abbrev pub place : Tree → List Tree → ℕ
place t [] = 0
place t (u ∷ us) = if same_tree u t then 0 else suc (place t us)
