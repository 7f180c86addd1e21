-- Symbols that are there, written substitutions, and terms that may be defined.
use Rattle.std.specs.Prelude.{ℕ, Bool, false, ◌&&◌, List}
use Rattle.std.specs.List.{list_all}
use Rattle.term_base.specs.declared.symbols.Sort.TheVariants.{Int}
use Rattle.term_base.specs.declared.symbols.Symbol.{Symbol}
use Rattle.term_base.specs.declared.terms.Term.{Term}
use Rattle.term_base.specs.declared.variables.Variable.{Variable}
use Rattle.term_base.specs.Trees.{Tree, var, node, tree}
use Rattle.term_base.specs.Sorting.{sort, has_sort}
use Rattle.term_base.specs.Purity.{foreground_head}
use Rattle.term_base.specs.SimpleTest.{are_simple_pairs}
pub use Rattle.term_base.specs.Known.{is_known_head, is_known, are_known, is_known_lit, is_known_clause, is_ground, are_ground}

-- each symbol of a pair's term has a number below n
abbrev pub is_known_pair : ℕ → Variable × Term → Bool
is_known_pair n p = is_known n (tree p.1)

-- a written substitution: each pair has a term of the variable's sort, pure where the variable is an abstraction variable, and with symbols below n alone
abbrev pub is_written : List Symbol → ℕ → List (Variable × Term) → Bool
is_written signature n ps = are_simple_pairs signature ps && list_all (is_known_pair n) ps

-- a foreground symbol is the head
abbrev pub has_foreground_head : List Symbol → Tree → Bool
has_foreground_head signature (var v) = false
has_foreground_head signature (node f xs) = foreground_head signature f

-- a term of sort Int without variables and with a foreground symbol as its head
abbrev pub is_definable : List Symbol → Tree → Bool
is_definable signature t = has_foreground_head signature t && (is_ground t && has_sort (sort signature t) Int)
