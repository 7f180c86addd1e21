-- Clauses that are well sorted over a signature, and background clauses.
use Rattle.std.specs.Prelude.{Bool, false, ◌&&◌, not, List, Option, Some, None}
use Rattle.std.specs.List.{list_all}
use Rattle.term_base.specs.declared.symbols.Sort.{Sort}
use Rattle.term_base.specs.declared.symbols.Sort.TheVariants.{Int}
use Rattle.term_base.specs.declared.symbols.Symbol.{Symbol}
use Rattle.term_base.specs.Sorting.{sort, has_sort}
use Rattle.term_base.specs.Purity.{foreground, foreign}
use Rattle.term_base.specs.Trees.{Tree}
use Rattle.term_base.specs.Lits.{Relation, equal, differ, at_most, Lit}

-- both sides are well sorted and have one sort
abbrev pub are_alike : Option Sort → Option Sort → Bool
are_alike None s = false
are_alike (Some r) s = has_sort s r

-- the sides of an equation have one sort, those of an inequality have sort Int
abbrev pub are_sides : Relation → Option Sort → Option Sort → Bool
are_sides equal r s = are_alike r s
are_sides differ r s = are_alike r s
are_sides at_most r s = has_sort r Int && has_sort s Int

abbrev pub is_lit_sorted : List Symbol → Lit → Bool
is_lit_sorted signature l = are_sides l.relation (sort signature l.left) (sort signature l.right)

-- every literal is well sorted
abbrev pub is_well_sorted : List Symbol → List Lit → Bool
is_well_sorted signature = list_all (is_lit_sorted signature)

-- no foreground symbol and no variable of another sort than Int is in it
abbrev pub is_background_tree : List Symbol → Tree → Bool
is_background_tree signature t = not (foreground signature t) && not (foreign t)

abbrev pub is_background_lit : List Symbol → Lit → Bool
is_background_lit signature l = is_background_tree signature l.left && is_background_tree signature l.right

-- no literal has a foreground symbol or a variable of another sort than Int
abbrev pub is_background : List Symbol → List Lit → Bool
is_background signature = list_all (is_background_lit signature)
