-- The next term of a clause to define: the first term, innermost and leftmost, that has a foreground symbol with a result of sort Int as
-- its head and whose variables are all pinned, with the pinned terms put in.
use Rattle.std.specs.Prelude.{Bool, true, false, ◌||◌, ◌&&◌, not, List, [], ◌∷◌, ◌++◌, filter, Option, Some, None, option_map, if◌then◌else◌}
use Rattle.term_base.specs.declared.symbols.Sort.TheVariants.{Int}
use Rattle.term_base.specs.declared.symbols.Symbol.{Symbol}
use Rattle.term_base.specs.Same.{same_sort}
use Rattle.term_base.specs.Trees.{Head, number, symbol, Tree, Trees, var, node, none, more, same_tree}
use Rattle.term_base.specs.Sorting.{result_sort}
use Rattle.term_base.specs.Purity.{is_foreground, foreground_head, any_foreground}
use Rattle.term_base.specs.Substitution.{put_in}
use Rattle.term_base.specs.Lits.{Relation, equal, differ, at_most, Lit, put_clause}
use Rattle.define_rule.specs.Pins.{are_ground, pin, are_pinned}

-- ---- the terms in order

-- the subterms of a tree, those of the arguments first, from left to right
abbrev mutual
  pub subterms : Tree → List Tree
  subterms (var v) = var v ∷ []
  subterms (node f xs) = subterms_of_each xs ++ node f xs ∷ []

  pub subterms_of_each : Trees → List Tree
  subterms_of_each none = []
  subterms_of_each (more x xs) = subterms x ++ subterms_of_each xs

-- the subterms of a clause: literal by literal, the left side first
abbrev pub in_order : List Lit → List Tree
in_order [] = []
in_order (l ∷ ls) = subterms l.left ++ (subterms l.right ++ in_order ls)

-- ---- the first one to define

-- a foreground symbol whose result has sort Int
abbrev pub is_integer_head : List Symbol → Head → Bool
is_integer_head signature f = foreground_head signature f && same_sort (result_sort signature f) Int

-- such a symbol with arguments, whose variables are all pinned
abbrev pub is_definable : List Symbol → List Lit → Tree → Bool
is_definable signature c (var v) = false
is_definable signature c (node f xs) = is_integer_head signature f && are_pinned signature c xs

abbrev pub first_definable : List Symbol → List Lit → List Tree → Option Tree
first_definable signature c [] = None
first_definable signature c (t ∷ ts) = if is_definable signature c t then Some t else first_definable signature c ts

-- ---- clauses that define a term already

-- a number or a parameter
abbrev pub is_value_head : List Symbol → Head → Bool
is_value_head signature (number n) = true
is_value_head signature (symbol f) = not (is_foreground signature f)
is_value_head signature _ = false

abbrev pub is_value : List Symbol → Tree → Bool
is_value signature (var v) = false
is_value signature (node f xs) = is_value_head signature f

-- neither variables nor foreground symbols are in the arguments
abbrev pub are_flat : List Symbol → Trees → Bool
are_flat signature xs = are_ground xs && not (any_foreground signature xs)

-- a foreground symbol whose result has sort Int, with such arguments
abbrev pub is_flat : List Symbol → Tree → Bool
is_flat signature (var v) = false
is_flat signature (node f xs) = is_integer_head signature f && are_flat signature xs

abbrev pub are_value_and_flat : List Symbol → Tree → Tree → Bool
are_value_and_flat signature s t = is_value signature s && is_flat signature t

-- one equation between a number or a parameter and such a term, in either order
abbrev pub is_definition_lit : List Symbol → Relation → Tree → Tree → Bool
is_definition_lit signature equal s t = are_value_and_flat signature s t || are_value_and_flat signature t s
is_definition_lit signature differ s t = false
is_definition_lit signature at_most s t = false

abbrev pub is_definition : List Symbol → List Lit → Bool
is_definition signature (l ∷ []) = is_definition_lit signature l.relation l.left l.right
is_definition signature _ = false

-- t != t
abbrev pub differs_from_itself : Relation → Tree → Tree → Bool
differs_from_itself equal s t = false
differs_from_itself differ s t = same_tree s t
differs_from_itself at_most s t = false

-- a clause without its literals t != t
abbrev pub without_trivial : List Lit → List Lit
without_trivial = filter (λ l. not (differs_from_itself l.relation l.left l.right))

-- ---- the next term

abbrev pub next_term : List Symbol → List Lit → Option Tree
next_term signature c =
    if is_definition signature (without_trivial (put_clause (pin signature c) c)) then None
    else option_map (put_in (pin signature c)) (first_definable signature c (in_order c))
