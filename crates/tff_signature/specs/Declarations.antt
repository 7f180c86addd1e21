-- What the statements declare, and the faults of declarations and binders: phase 2.
use Rattle.std.specs.Prelude.{ℕ, Bool, true, false, ◌&&◌, List, [], ◌∷◌, ◌++◌, Option, Some, None, filter_map, flat_map, if◌then◌else◌}
use Rattle.std.specs.Option.{option_map_or}
use Rattle.std.specs.Cmp.Lexicographic.{pointwise}
use Rattle.tff_grammar.specs.declared.pieces.BasicSort.{BasicSort}
use Rattle.tff_grammar.specs.declared.pieces.BasicSort.TheVariants.{Individual, Int}
use Rattle.tff_grammar.specs.declared.trees.Word.{Word}
use Rattle.tff_grammar.specs.declared.trees.Sort.{Sort}
use Rattle.tff_grammar.specs.declared.trees.Sort.TheVariants as sort
use Rattle.tff_grammar.specs.declared.trees.DeclaredType.{DeclaredType}
use Rattle.tff_grammar.specs.declared.trees.DeclaredType.TheVariants as type
use Rattle.tff_grammar.specs.declared.trees.Variable.{Variable}
use Rattle.tff_grammar.specs.declared.trees.Formula.{Formula}
use Rattle.tff_grammar.specs.declared.trees.Formula.TheOpen as f
use Rattle.tff_grammar.specs.declared.trees.Formula.TheOpen.{Formula-F}
use Rattle.tff_grammar.specs.declared.trees.Formula.TheFolds.{fold-Formula}
use Rattle.tff_grammar.specs.declared.trees.Content.{Content}
use Rattle.tff_grammar.specs.declared.trees.Content.TheVariants as content
use Rattle.tff_grammar.specs.declared.trees.Statement.{Statement}
use Rattle.tff_signature.specs.declared.faults.LaterName.TheVariants.{Redeclared, UnknownSort}
use Rattle.tff_signature.specs.Names.{Name, same_name, name_of, span_of, is_among, by_first_place}
use Rattle.tff_signature.specs.Faults.{Faults, alone}

-- ---- declarations

-- a word with the type that is declared for it
pub record Declaration : Type 0 where
  pub word : Word
  pub type : DeclaredType

-- what a statement declares
abbrev pub declared_in : Content → Option Declaration
declared_in (content.Declaration w t) = Some (record { word = w; type = t })
declared_in (content.Premise g) = None
declared_in (content.Conjecture g) = None

-- the declarations of a file, in file order
abbrev pub declarations : List Statement → List Declaration
declarations = filter_map (λ s. declared_in s.content)

-- a name with the type `$tType` is a sort
abbrev pub made_sort : DeclaredType → Name → Option Name
made_sort type.OfTypes name = Some name
made_sort (type.Function args s) name = None

-- two sorts among `$i` and `$int` are one
abbrev pub same_basic : BasicSort → BasicSort → Bool
same_basic Individual Individual = true
same_basic Individual Int = false
same_basic Int Individual = false
same_basic Int Int = true

module _ (text : List ℕ) where
  -- the type of the first declaration of a name
  abbrev pub declared_type : List Declaration → Name → Option DeclaredType
  declared_type [] name = None
  declared_type (d ∷ ds) name = if same_name name (name_of text d.word) then Some d.type else declared_type ds name

  -- the name that a declaration makes a sort
  abbrev pub sort_declared : Declaration → Option Name
  sort_declared d = made_sort d.type (name_of text d.word)

  -- the names of the declared sorts, in the order of their first declarations
  abbrev pub sort_names : List Declaration → List Name
  sort_names ds = by_first_place (filter_map sort_declared ds)

  -- ---- types

  -- sort words are one sort where they have one name
  abbrev pub same_sort : Sort → Sort → Bool
  same_sort (sort.Word v) (sort.Word w) = same_name (name_of text v) (name_of text w)
  same_sort (sort.Word v) _ = false
  same_sort (sort.Basic b) (sort.Basic c) = same_basic b c
  same_sort (sort.Basic b) _ = false
  same_sort sort.Truth sort.Truth = true
  same_sort sort.Truth _ = false

  -- types are compared without their brackets and places
  abbrev pub same_type : DeclaredType → DeclaredType → Bool
  same_type type.OfTypes type.OfTypes = true
  same_type type.OfTypes (type.Function args s) = false
  same_type (type.Function args s) type.OfTypes = false
  same_type (type.Function args s) (type.Function args' s') = pointwise same_sort args args' && same_sort s s'

  -- ---- phase 2

  -- a sort word that no declaration makes a sort
  abbrev pub sort_faults : List Name → Sort → Faults
  sort_faults sorts (sort.Word w) = if is_among sorts (name_of text w) then [] else alone UnknownSort (span_of w).start
  sort_faults sorts (sort.Basic b) = []
  sort_faults sorts sort.Truth = []

  -- those of the sorts that a type names, in reading order
  abbrev pub type_faults : List Name → DeclaredType → Faults
  type_faults sorts type.OfTypes = []
  type_faults sorts (type.Function args s) = flat_map (sort_faults sorts) args ++ sort_faults sorts s

  -- a word whose type differs from that of its first declaration
  abbrev pub redeclared : Word → DeclaredType → Option DeclaredType → Faults
  redeclared w t None = []
  redeclared w t (Some first) = if same_type t first then [] else alone Redeclared (span_of w).start

  -- those of a declaration: its word first, then the sorts of its type
  abbrev pub declaration_faults : List Declaration → List Name → Word → DeclaredType → Faults
  declaration_faults ds sorts w t = redeclared w t (declared_type ds (name_of text w)) ++ type_faults sorts t

  -- the sort of a variable, where one is written
  abbrev pub variable_faults : List Name → Variable → Faults
  variable_faults sorts v = option_map_or (sort_faults sorts) v.sort []

  -- one layer of a formula
  abbrev pub binder_faults_step : List Name → Formula-F Faults → Faults
  binder_faults_step sorts (f.Constant b) = []
  binder_faults_step sorts (f.Atom t) = []
  binder_faults_step sorts (f.Relation r s t) = []
  binder_faults_step sorts (f.Not g) = g
  binder_faults_step sorts (f.Quantified q vs g) = flat_map (variable_faults sorts) vs ++ g
  binder_faults_step sorts (f.Linked l g h) = g ++ h
  binder_faults_step sorts (f.Joined j gs) = flat_map (λ g. g) gs

  -- those of a formula's variables, in reading order
  abbrev pub binder_faults : List Name → Formula → Faults
  binder_faults sorts = fold-Formula Faults (binder_faults_step sorts)

  -- those of a statement
  abbrev pub content_faults : List Declaration → List Name → Content → Faults
  content_faults ds sorts (content.Declaration w t) = declaration_faults ds sorts w t
  content_faults ds sorts (content.Premise g) = binder_faults sorts g
  content_faults ds sorts (content.Conjecture g) = binder_faults sorts g

  -- the faults of all declarations and binders, in file order; all declarations count from the start
  abbrev pub phase_2 : List Statement → Faults
  phase_2 statements =
      let ds = declarations statements in
      flat_map (λ s. content_faults ds (sort_names ds) s.content) statements
