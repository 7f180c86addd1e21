-- The sorts of terms over a signature. A symbol number at or past the signature's length is a parameter.
use Rattle.std.specs.Prelude.{Bool, true, false, ◌&&◌, List, [], ◌∷◌, Option, Some, None, if◌then◌else◌, slice_get}
use Rattle.std.specs.Option.{option_map_or}
use Rattle.term_base.specs.declared.symbols.Sort.{Sort}
use Rattle.term_base.specs.declared.symbols.Sort.TheVariants.{Int, Truth}
use Rattle.term_base.specs.declared.symbols.Symbol.{Symbol}
use Rattle.term_base.specs.Same.{same_sort}
use Rattle.term_base.specs.Trees.{Head, truth, plus, times, symbol, Tree, Trees, var, node, none, more}

-- whether a part is well sorted and has a sort
abbrev pub has_sort : Option Sort → Sort → Bool
has_sort None s = false
has_sort (Some r) s = same_sort r s

-- whether the arguments are as many as the sorts, and each has its sort
abbrev pub have_sorts : List (Option Sort) → List Sort → Bool
have_sorts [] [] = true
have_sorts (r ∷ rs) (s ∷ ss) = has_sort r s && have_sorts rs ss
have_sorts _ _ = false

-- the sorts of a head's arguments
abbrev pub arity : List Symbol → Head → List Sort
arity signature plus = Int ∷ Int ∷ []
arity signature times = Int ∷ Int ∷ []
arity signature (symbol f) = option_map_or (λ s. s.args) (slice_get signature f) []
arity signature _ = []

-- the sort of a head's term
abbrev pub result_sort : List Symbol → Head → Sort
result_sort signature truth = Truth
result_sort signature (symbol f) = option_map_or (λ s. s.result) (slice_get signature f) Int
result_sort signature _ = Int

-- the sort of a tree, if it is well sorted
abbrev mutual
  pub sort : List Symbol → Tree → Option Sort
  sort signature (var v) = Some v.sort
  sort signature (node f xs) = if have_sorts (sorts signature xs) (arity signature f) then Some (result_sort signature f) else None

  pub sorts : List Symbol → Trees → List (Option Sort)
  sorts signature none = []
  sorts signature (more x xs) = sort signature x ∷ sorts signature xs
