-- The targets of a clause: the terms that weak abstraction replaces by variables, outermost ones alone, from left to right.
use Rattle.std.specs.Prelude.{Bool, true, false, ◌||◌, ◌&&◌, not, List, [], ◌∷◌, ◌++◌, if◌then◌else◌}
use Rattle.term_base.specs.declared.symbols.Sort.TheVariants.{Int}
use Rattle.term_base.specs.declared.symbols.Symbol.{Symbol}
use Rattle.term_base.specs.declared.terms.Purity.{Purity}
use Rattle.term_base.specs.declared.terms.Purity.TheVariants.{Pure, Impure, Foreground}
use Rattle.term_base.specs.Trees.{Head, truth, number, plus, times, symbol, Tree, Trees, var, node, none, more}
use Rattle.term_base.specs.Sorting.{sort, has_sort}
use Rattle.term_base.specs.Purity.{is_foreground, foreground, purity}
use Rattle.term_base.specs.Lits.{Relation, equal, differ, at_most, Lit}

-- Foreground or Impure
abbrev pub is_mixed : Purity → Bool
is_mixed Pure = false
is_mixed Impure = true
is_mixed Foreground = true

abbrev pub mixed : List Symbol → Tree → Bool
mixed signature t = is_mixed (purity signature t)

abbrev pub is_number : Head → Bool
is_number (number n) = true
is_number _ = false

-- neither a variable nor a number
abbrev pub is_compound : Tree → Bool
is_compound (var v) = false
is_compound (node f xs) = not (is_number f)

-- without foreground symbol, of sort Int, and neither a number nor a variable
abbrev pub is_plain : List Symbol → Tree → Bool
is_plain signature t = is_compound t && (not (foreground signature t) && has_sort (sort signature t) Int)

-- whether each argument is Foreground or Impure
abbrev pub each_mixed : List Symbol → Trees → List Bool
each_mixed signature none = []
each_mixed signature (more x xs) = mixed signature x ∷ each_mixed signature xs

-- of two arguments, for each what is said of the other one
abbrev pub by_the_other : List Bool → List Bool
by_the_other (a ∷ b ∷ []) = b ∷ a ∷ []
by_the_other _ = []

-- the same for each argument
abbrev pub each_as : Bool → List Bool → List Bool
each_as b [] = []
each_as b (m ∷ ms) = b ∷ each_as b ms

-- for each argument of a head whether a target may stand there: each argument of a foreground symbol, and an argument of Sum or
-- Scale whose other argument is Foreground or Impure
abbrev pub argument_counts : List Symbol → Head → List Bool → List Bool
argument_counts signature plus ms = by_the_other ms
argument_counts signature times ms = by_the_other ms
argument_counts signature (symbol f) ms = each_as (is_foreground signature f) ms
argument_counts signature truth ms = []
argument_counts signature (number n) ms = []

-- what is said of the first argument, and of the others
abbrev pub first_counts : List Bool → Bool
first_counts [] = false
first_counts (c ∷ cs) = c

abbrev pub other_counts : List Bool → List Bool
other_counts [] = []
other_counts (c ∷ cs) = cs

-- the term alone where it is a target, else the targets below it
abbrev pub outermost : List Symbol → Tree → Bool → List Tree → List Tree
outermost signature t counts below = if is_plain signature t && counts then t ∷ [] else below

-- the targets below a term, and those of arguments
abbrev mutual
  pub targets_below : List Symbol → Tree → List Tree
  targets_below signature (var v) = []
  targets_below signature (node f xs) = targets_of_each signature xs (argument_counts signature f (each_mixed signature xs))

  pub targets_of_each : List Symbol → Trees → List Bool → List Tree
  targets_of_each signature none cs = []
  targets_of_each signature (more x xs) cs =
      outermost signature x (first_counts cs) (targets_below signature x) ++ targets_of_each signature xs (other_counts cs)

-- the targets in a term at a place where one may stand or not
abbrev pub targets_in : List Symbol → Tree → Bool → List Tree
targets_in signature t counts = outermost signature t counts (targets_below signature t)

abbrev pub is_equation : Relation → Bool
is_equation equal = true
is_equation differ = false
is_equation at_most = false

abbrev pub is_parameter_head : List Symbol → Head → Bool
is_parameter_head signature (symbol f) = not (is_foreground signature f)
is_parameter_head signature _ = false

abbrev pub is_parameter : List Symbol → Tree → Bool
is_parameter signature (var v) = false
is_parameter signature (node f xs) = is_parameter_head signature f

-- whether a side of a literal may be a target: the other side is Foreground or Impure, and it is no parameter of an equation
abbrev pub side_counts : List Symbol → Bool → Tree → Tree → Bool
side_counts signature equation t beside = not (equation && is_parameter signature t) && mixed signature beside

-- a foreground symbol is in the literal
abbrev pub lit_foreground : List Symbol → Lit → Bool
lit_foreground signature l = foreground signature l.left || foreground signature l.right

-- the targets in two sides
abbrev pub side_targets : List Symbol → Bool → Tree → Tree → List Tree
side_targets signature equation s t =
    targets_in signature s (side_counts signature equation s t) ++ targets_in signature t (side_counts signature equation t s)

-- a literal without foreground symbol has no target
abbrev pub literal_targets : List Symbol → Lit → List Tree
literal_targets signature l =
    if lit_foreground signature l then side_targets signature (is_equation l.relation) l.left l.right else []

-- the targets of the literals in order
abbrev pub targets : List Symbol → List Lit → List Tree
targets signature [] = []
targets signature (l ∷ ls) = literal_targets signature l ++ targets signature ls
