-- The symbols of a file: their order, and their types.
use Rattle.std.specs.Prelude.{ℕ, Bool, true, false, List, [], ◌∷◌, ◌++◌, length, map, fold, replicate, Option, Some, None, flat_map, filter_map, slice_get, if◌then◌else◌, refl}
use Rattle.term_base.specs.declared.symbols.Sort.{Sort}
use Rattle.term_base.specs.declared.symbols.Sort.TheVariants as sorts
use Rattle.term_base.specs.declared.symbols.Symbol.{Symbol}
use Rattle.term_base.specs.Classes.{class_of}
use Rattle.tff_grammar.specs.declared.pieces.BasicSort.TheVariants as basic
use Rattle.tff_grammar.specs.declared.trees.Word.{Word}
use Rattle.tff_grammar.specs.declared.trees.Sort.{Sort as WrittenSort}
use Rattle.tff_grammar.specs.declared.trees.Sort.TheVariants as sort
use Rattle.tff_grammar.specs.declared.trees.DeclaredType.{DeclaredType}
use Rattle.tff_grammar.specs.declared.trees.DeclaredType.TheVariants as type
use Rattle.tff_grammar.specs.declared.trees.Head.{Head}
use Rattle.tff_grammar.specs.declared.trees.Head.TheVariants as head
use Rattle.tff_grammar.specs.declared.trees.Term.{Term}
use Rattle.tff_grammar.specs.declared.trees.Term.TheOpen as t
use Rattle.tff_grammar.specs.declared.trees.Term.TheOpen.{Term-F}
use Rattle.tff_grammar.specs.declared.trees.Term.TheFolds.{fold-Term}
use Rattle.tff_grammar.specs.declared.trees.Formula.{Formula}
use Rattle.tff_grammar.specs.declared.trees.Formula.TheOpen as f
use Rattle.tff_grammar.specs.declared.trees.Formula.TheOpen.{Formula-F}
use Rattle.tff_grammar.specs.declared.trees.Formula.TheFolds.{fold-Formula}
use Rattle.tff_grammar.specs.declared.trees.Content.{Content}
use Rattle.tff_grammar.specs.declared.trees.Content.TheVariants as content
use Rattle.tff_grammar.specs.declared.trees.Statement.{Statement}
use Rattle.tff_signature.specs.Names.{Name, name_of, is_among, number_of}
use Rattle.tff_signature.specs.Declarations.{declarations, declared_type, sort_names}

-- ---- the places of words

-- a word at a place: its name, the number of arguments that stand there, and whether it is a whole atomic formula
pub record Use : Type 0 where
  pub name : Name
  pub arity : ℕ
  pub whole : Bool

-- a symbol of this type
abbrev pub symbol : Name → List Sort → Sort → Symbol
symbol name args result = record { name = name; args = args; result = result; class = class_of args result; classified = refl }

-- an undeclared word is over `$i`, with so many arguments; as a whole atomic formula it is a predicate
abbrev pub used_symbol : Use → Symbol
used_symbol u = symbol u.name (replicate u.arity sorts.Individual) (if u.whole then sorts.Truth else sorts.Individual)

module _ (text : List ℕ) where
  -- a word at a place
  abbrev pub word_use : Word → ℕ → Bool → Use
  word_use w arity whole = record { name = name_of text w; arity = arity; whole = whole }

  -- a head at a place: no use where it is an arithmetic word
  abbrev pub head_uses : Head → ℕ → Bool → List Use
  head_uses (head.Word w) arity whole = word_use w arity whole ∷ []
  head_uses (head.Operation o s) arity whole = []

  -- one layer of a term
  abbrev pub term_uses_step : Term-F (Bool → List Use) → Bool → List Use
  term_uses_step (t.Variable s) whole = []
  term_uses_step (t.Numeral m) whole = []
  term_uses_step (t.Apply h args) whole = head_uses h (length args) whole ++ flat_map (λ a. a false) args

  -- the words of a term, or of a whole atomic formula that has the form of one, in reading order
  abbrev pub term_uses : Term → Bool → List Use
  term_uses = fold-Term (Bool → List Use) term_uses_step

  -- one layer of a formula
  abbrev pub formula_uses_step : Formula-F (List Use) → List Use
  formula_uses_step (f.Constant b) = []
  formula_uses_step (f.Atom s) = term_uses s true
  formula_uses_step (f.Relation r s u) = term_uses s false ++ term_uses u false
  formula_uses_step (f.Not g) = g
  formula_uses_step (f.Quantified q vs g) = g
  formula_uses_step (f.Linked l g h) = g ++ h
  formula_uses_step (f.Joined j gs) = flat_map (λ g. g) gs

  -- the words of a formula, in reading order
  abbrev pub formula_uses : Formula → List Use
  formula_uses = fold-Formula (List Use) formula_uses_step

  -- a declared word stands in its declaration as a constant, which tells nothing of its type
  abbrev pub content_uses : Content → List Use
  content_uses (content.Declaration w t) = word_use w 0 false ∷ []
  content_uses (content.Premise g) = formula_uses g
  content_uses (content.Conjecture g) = formula_uses g

  -- the words of a file, in the order of their places, declarations and uses alike
  abbrev pub uses : List Statement → List Use
  uses = flat_map (λ s. content_uses s.content)

  -- ---- the types of words

  -- the sort that is written, among the declared ones
  abbrev pub sort_of : List Name → WrittenSort → Sort
  sort_of names (sort.Word w) = sorts.Declared (number_of names (name_of text w))
  sort_of names (sort.Basic basic.Individual) = sorts.Individual
  sort_of names (sort.Basic basic.Int) = sorts.Int
  sort_of names sort.Truth = sorts.Truth

  -- the symbol of a name with this declared type, else as at this use; a sort is none
  abbrev pub symbol_at : List Name → Use → Option DeclaredType → Option Symbol
  symbol_at names u None = Some (used_symbol u)
  symbol_at names u (Some type.OfTypes) = None
  symbol_at names u (Some (type.Function args s)) = Some (symbol u.name (map (sort_of names) args) (sort_of names s))

-- ---- the signature

-- a use is added behind those before it, where none of them has its name
abbrev pub add_use : List Use → Use → List Use
add_use us u = if is_among (map (λ v. v.name) us) u.name then us else us ++ u ∷ []

-- the first use of each name, in the order of their places
abbrev pub first_uses : List Use → List Use
first_uses us = fold add_use [] us

-- the declared sorts and the symbols of a file, in the order of their numbers
pub record Signature : Type 0 where
  pub sorts : List Name
  pub symbols : List Symbol

-- Sorts are numbered by their first declarations, symbols by their first places.
abbrev pub signature_of : List ℕ → List Statement → Signature
signature_of text statements =
    let ds = declarations statements in
    let names = sort_names text ds in
    record { sorts = names; symbols = filter_map (λ u. symbol_at text names u (declared_type text ds u.name)) (first_uses (uses text statements)) }

-- the number of the symbol with a name; the number of all symbols, where none has it
abbrev pub symbol_number : List Symbol → Name → ℕ
symbol_number symbols name = number_of (map (λ s. s.name) symbols) name

-- the symbol that a word names
abbrev pub symbol_named : List Symbol → Name → Option Symbol
symbol_named symbols name = slice_get symbols (symbol_number symbols name)
