-- Abstractions as steps: some terms of a clause give way to new variables, and a literal x != t follows for each. A variable may stand for no term of the clause.
use Rattle.std.specs.Prelude.{Bool, true, false, not, ◌&&◌, List, [], ◌∷◌, take, drop, length, if◌then◌else◌}
use Rattle.std.specs.List.{list_all}
use Rattle.term_base.specs.declared.symbols.Sort.TheVariants.{Int}
use Rattle.term_base.specs.declared.symbols.Symbol.{Symbol}
use Rattle.term_base.specs.declared.terms.Purity.{Purity}
use Rattle.term_base.specs.declared.terms.Purity.TheVariants.{Pure, Impure, Foreground}
use Rattle.term_base.specs.declared.variables.Variable.{Variable}
use Rattle.term_base.specs.Same.{same_sort}
use Rattle.term_base.specs.Trees.{Tree, var, node, same_tree, occurs}
use Rattle.term_base.specs.Purity.{purity, is_abstraction as is_abstraction_variable}
use Rattle.term_base.specs.Substitution.{put_in}
use Rattle.term_base.specs.Lits.{Relation, equal, differ, at_most, Lit, put_clause, clause_occurs}
use Rattle.step_rules.specs.Literals.{same_lits}

-- an abstraction variable for a Pure term, an ordinary variable of sort Int for an Impure one
abbrev pub stands_for : Variable → Purity → Bool
stands_for v Pure = is_abstraction_variable v
stands_for v Impure = not (is_abstraction_variable v) && same_sort v.sort Int
stands_for v Foreground = false

-- the variable is in none of the terms replaced
abbrev pub is_apart : List Lit → Variable → Bool
is_apart ds v = list_all (λ d. not (occurs v d.right)) ds

-- the variable fits the term, and is new
abbrev pub is_new_for : List Symbol → List Lit → List Lit → Variable → Tree → Bool
is_new_for signature c ds v t = stands_for v (purity signature t) && (not (clause_occurs v c) && is_apart ds v)

-- the left side is a variable that fits the right side, and is new
abbrev pub is_named : List Symbol → List Lit → List Lit → Tree → Tree → Bool
is_named signature c ds (var v) t = is_new_for signature c ds v t
is_named signature c ds (node f xs) t = false

-- the relation is that of a disequation
abbrev pub is_disequation : Relation → Bool
is_disequation equal = false
is_disequation differ = true
is_disequation at_most = false

-- a literal x != t of a new variable for c
abbrev pub is_definition : List Symbol → List Lit → List Lit → Lit → Bool
is_definition signature c ds d = is_disequation d.relation && is_named signature c ds d.left d.right

-- the variable is none of the others
abbrev pub differs_from_all : Lit → List Lit → Bool
differs_from_all d = list_all (λ e. not (same_tree d.left e.left))

-- no two of the variables are one
abbrev pub are_distinct : List Lit → Bool
are_distinct [] = true
are_distinct (d ∷ ds) = differs_from_all d ds && are_distinct ds

-- each variable goes back to its term
abbrev pub put_back : List Lit → Variable → Tree
put_back [] v = var v
put_back (d ∷ ds) v = if same_tree d.left (var v) then d.right else put_back ds v

-- x != t becomes t != t
abbrev pub goes_back : List Lit → Lit → Bool
goes_back ds d = same_tree (put_in (put_back ds) d.left) d.right && same_tree (put_in (put_back ds) d.right) d.right

-- putting each term back for its variable gives c and literals t != t
abbrev pub puts_back : List Lit → List Lit → List Lit → Bool
puts_back c body ds = same_lits (put_clause (put_back ds) body) c && list_all (goes_back ds) ds

-- the body and the definitions are an abstraction of c
abbrev pub abstracts : List Symbol → List Lit → List Lit → List Lit → Bool
abstracts signature c body ds = (list_all (is_definition signature c ds) ds && are_distinct ds) && puts_back c body ds

-- d is c with some terms replaced by new variables, followed by one literal x != t for each: an abstraction variable for a Pure term, an ordinary variable of sort Int for an Impure one
abbrev pub is_abstraction : List Symbol → List Lit → List Lit → Bool
is_abstraction signature c d = abstracts signature c (take (length c) d) (drop (length c) d)
