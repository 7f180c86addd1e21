-- Whether a list of pairs is a simple substitution, as a test.
use Rattle.std.specs.Prelude.{Bool, ◌||◌, ◌&&◌, not, List}
use Rattle.std.specs.List.{list_all}
use Rattle.term_base.specs.declared.symbols.Symbol.{Symbol}
use Rattle.term_base.specs.declared.terms.Term.{Term}
use Rattle.term_base.specs.declared.variables.Variable.{Variable}
use Rattle.term_base.specs.Trees.{Tree, tree}
use Rattle.term_base.specs.Sorting.{sort, has_sort}
use Rattle.term_base.specs.Purity.{foreground, ordinary, is_abstraction}

-- neither a foreground symbol nor an ordinary variable is in it
abbrev pub is_pure_tree : List Symbol → Tree → Bool
is_pure_tree signature t = not (foreground signature t) && not (ordinary t)

-- the term has the variable's sort, and is pure where the variable is an abstraction variable
abbrev pub is_simple_pair : List Symbol → Variable × Term → Bool
is_simple_pair signature p = has_sort (sort signature (tree p.1)) p.0.sort && (not (is_abstraction p.0) || is_pure_tree signature (tree p.1))

abbrev pub are_simple_pairs : List Symbol → List (Variable × Term) → Bool
are_simple_pairs signature = list_all (is_simple_pair signature)
