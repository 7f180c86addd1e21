-- The abstraction without a target: every target gives way to a variable, equal ones to one variable. The variables are numbered
-- by the first places of their targets, from one more than the greatest number of a variable of the clause on.
use Rattle.std.specs.Prelude.{ℕ, suc, ◌+◌, max, Bool, false, ◌&&◌, ◌||◌, List, [], ◌∷◌, ◌++◌, map, fold, if◌then◌else◌, refl}
use Rattle.term_base.specs.declared.symbols.Sort.TheVariants.{Int}
use Rattle.term_base.specs.declared.symbols.Symbol.{Symbol}
use Rattle.term_base.specs.declared.terms.Purity.{Purity}
use Rattle.term_base.specs.declared.terms.Purity.TheVariants.{Pure, Impure, Foreground}
use Rattle.term_base.specs.declared.variables.Kind.{Kind}
use Rattle.term_base.specs.declared.variables.Kind.TheVariants.{Abstraction, Ordinary}
use Rattle.term_base.specs.declared.variables.Variable.{Variable}
use Rattle.term_base.specs.Proper.{IsProper}
use Rattle.term_base.specs.Trees.{Tree, Trees, var, node, none, more, same_tree}
use Rattle.term_base.specs.Purity.{purity}
use Rattle.term_base.specs.Lits.{Lit}
use Rattle.weak_abstraction.specs.Targets.{is_plain, each_mixed, argument_counts, first_counts, other_counts, is_equation, side_counts, lit_foreground, targets}
use Rattle.weak_abstraction.specs.Abstraction.{definition}

-- ---- the different targets

abbrev pub is_among : Tree → List Tree → Bool
is_among t [] = false
is_among t (u ∷ us) = same_tree u t || is_among t us

-- a term is added behind those before it, where it isn't among them
abbrev pub add_new : List Tree → Tree → List Tree
add_new ts t = if is_among t ts then ts else ts ++ t ∷ []

-- each term once, in the order of first places
abbrev pub each_once : List Tree → List Tree
each_once ts = fold add_new [] ts

-- ---- the variables

-- one more than the greatest number of a variable, and 0 without variables
abbrev mutual
  pub next_number : Tree → ℕ
  next_number (var v) = v.id + 1
  next_number (node f xs) = next_of_each xs

  pub next_of_each : Trees → ℕ
  next_of_each none = 0
  next_of_each (more x xs) = max (next_number x) (next_of_each xs)

abbrev pub literal_number : Lit → ℕ
literal_number l = max (next_number l.left) (next_number l.right)

abbrev pub first_number : List Lit → ℕ
first_number [] = 0
first_number (l ∷ ls) = max (literal_number l) (first_number ls)

-- an ordinary variable for an Impure term, else an abstraction variable
abbrev pub kind_for : Purity → Kind
kind_for Pure = Abstraction
kind_for Impure = Ordinary
kind_for Foreground = Abstraction

abbrev pub kind_for-proper : (p : Purity) → IsProper (kind_for p) Int
kind_for-proper Pure = refl
kind_for-proper Impure = refl
kind_for-proper Foreground = refl

abbrev pub variable_for : Purity → ℕ → Variable
variable_for p n = record { kind = kind_for p; sort = Int; id = n; proper = kind_for-proper p }

-- how many terms stand before a term
abbrev pub place : Tree → List Tree → ℕ
place t [] = 0
place t (u ∷ us) = if same_tree u t then 0 else suc (place t us)

-- the variable of a target, by its place among the different ones
abbrev pub variable_of : List Symbol → ℕ → List Tree → Tree → Variable
variable_of signature n ts t = variable_for (purity signature t) (n + place t ts)

abbrev pub named : List Symbol → ℕ → List Tree → Tree → Tree
named signature n ts t = var (variable_of signature n ts t)

-- the different targets with their variables, numbered from n on
abbrev pub numbered : List Symbol → ℕ → List Tree → List (Variable × Tree)
numbered signature n [] = []
numbered signature n (t ∷ ts) = (variable_for (purity signature t) n, t) ∷ numbered signature (n + 1) ts

-- ---- the clause with what stands for its targets in their place

-- what stands for the term where it is a target, else the term with its targets replaced
abbrev pub replaced_at : List Symbol → (Tree → Tree) → Tree → Bool → Tree → Tree
replaced_at signature g t counts below = if is_plain signature t && counts then g t else below

-- the term, and arguments, with the targets below replaced
abbrev mutual
  pub replaced_below : List Symbol → (Tree → Tree) → Tree → Tree
  replaced_below signature g (var v) = var v
  replaced_below signature g (node f xs) = node f (replaced_each signature g xs (argument_counts signature f (each_mixed signature xs)))

  pub replaced_each : List Symbol → (Tree → Tree) → Trees → List Bool → Trees
  replaced_each signature g none cs = none
  replaced_each signature g (more x xs) cs =
      more (replaced_at signature g x (first_counts cs) (replaced_below signature g x)) (replaced_each signature g xs (other_counts cs))

-- a term with its targets replaced, at a place where one may stand or not
abbrev pub replaced_in : List Symbol → (Tree → Tree) → Tree → Bool → Tree
replaced_in signature g t counts = replaced_at signature g t counts (replaced_below signature g t)

-- a side of a literal with its targets replaced
abbrev pub replaced_side : List Symbol → (Tree → Tree) → Bool → Tree → Tree → Tree
replaced_side signature g equation t beside = replaced_in signature g t (side_counts signature equation t beside)

-- a literal with the targets of its sides replaced
abbrev pub replaced_sides : List Symbol → (Tree → Tree) → Lit → Lit
replaced_sides signature g l = record {
  relation = l.relation;
  left = replaced_side signature g (is_equation l.relation) l.left l.right;
  right = replaced_side signature g (is_equation l.relation) l.right l.left;
}

-- a literal without foreground symbol has no target
abbrev pub replaced_lit : List Symbol → (Tree → Tree) → Lit → Lit
replaced_lit signature g l = if lit_foreground signature l then replaced_sides signature g l else l

-- ---- the abstraction

-- the clause with the variables n, n + 1, .. for these targets in their place, and x != t behind for each
abbrev pub abstracted_with : List Symbol → ℕ → List Tree → List Lit → List Lit
abstracted_with signature n ts c = map (replaced_lit signature (named signature n ts)) c ++ map definition (numbered signature n ts)

abbrev pub abstracted : List Symbol → List Lit → List Lit
abstracted signature c = abstracted_with signature (first_number c) (each_once (targets signature c)) c
