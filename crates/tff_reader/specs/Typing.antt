-- The typing rules of terms: phase 3 at the atoms.
use Rattle.std.specs.Prelude.{ℕ, Bool, true, false, not, ◌&&◌, ◌==◌, List, [], ◌∷◌, ◌++◌, length, drop, Option, Some, None, option_map, if◌then◌else◌}
use Rattle.term_base.specs.declared.symbols.Sort.{Sort}
use Rattle.term_base.specs.declared.symbols.Sort.TheVariants as sorts
use Rattle.term_base.specs.declared.symbols.Symbol.{Symbol}
use Rattle.term_base.specs.Same.{same_sort}
use Rattle.tff_grammar.specs.declared.pieces.Span.{Span}
use Rattle.tff_grammar.specs.declared.pieces.Operation.{Operation}
use Rattle.tff_grammar.specs.declared.pieces.Operation.TheVariants as o
use Rattle.tff_grammar.specs.declared.trees.Head.{Head}
use Rattle.tff_grammar.specs.declared.trees.Head.TheVariants as head
use Rattle.tff_grammar.specs.declared.trees.Term.{Term}
use Rattle.tff_grammar.specs.declared.trees.Term.TheOpen as t
use Rattle.tff_grammar.specs.declared.trees.Term.TheOpen.{Term-F}
use Rattle.tff_grammar.specs.declared.trees.Term.TheFolds.{fold-Term}
use Rattle.tff_grammar.specs.declared.trees.Term.TheViews.{out-Term}
use Rattle.tff_grammar.specs.Pieces.{bytes_at}
use Rattle.tff_signature.specs.declared.faults.LaterName.TheVariants.{IllTyped}
use Rattle.tff_reader.specs.declared.heads.Wanted.{Wanted}
use Rattle.tff_reader.specs.declared.heads.Wanted.TheVariants as wanted
use Rattle.tff_signature.specs.Names.{name_of, span_of}
use Rattle.tff_signature.specs.Faults.{Faults, alone}
use Rattle.tff_signature.specs.Symbols.{symbol_named}
use Rattle.tff_reader.specs.Scopes.{Scope, bound_by}

-- ---- the types of heads

-- the sorts of a head's arguments and of what it gives
pub record HeadType : Type 0 where
  pub args : List Sort
  pub result : Sort

-- the type of a word over two integers
abbrev pub two_to : Sort → HeadType
two_to result = record { args = sorts.Int ∷ sorts.Int ∷ []; result = result }

-- arithmetic words are over `$int`
abbrev pub operation_type : Operation → HeadType
operation_type o.Sum = two_to sorts.Int
operation_type o.Difference = two_to sorts.Int
operation_type o.Uminus = record { args = sorts.Int ∷ []; result = sorts.Int }
operation_type o.Product = two_to sorts.Int
operation_type o.Less = two_to sorts.Truth
operation_type o.LessEq = two_to sorts.Truth
operation_type o.Greater = two_to sorts.Truth
operation_type o.GreaterEq = two_to sorts.Truth

-- the byte at which a head stands
abbrev pub head_place : Head → ℕ
head_place (head.Word w) = (span_of w).start
head_place (head.Operation op s) = s.start

-- ---- what a place asks of a term

-- a term of this sort may stand there
abbrev pub suits : Wanted → Sort → Bool
suits wanted.Predicate s = same_sort s sorts.Truth
suits wanted.Term s = not (same_sort s sorts.Truth)
suits (wanted.OfSort w) s = same_sort s w

-- a term at this byte that stands where another sort or use is asked for, or a variable that nothing binds
abbrev pub own_fault : Wanted → ℕ → Option Sort → Faults
own_fault w at None = alone IllTyped at
own_fault w at (Some s) = if suits w s then [] else alone IllTyped at

-- a head that is no symbol, or has another use or another number of arguments than its type says
abbrev pub head_fault : Wanted → ℕ → ℕ → Option HeadType → Faults
head_fault w at arity None = alone IllTyped at
head_fault w at arity (Some h) = if suits w h.result && (arity == length h.args) then [] else alone IllTyped at

-- the sorts of the arguments, none where there is no type
abbrev pub arguments : Option HeadType → List Sort
arguments None = []
arguments (Some h) = h.args

-- what the first of these sorts asks of an argument; past the last one the head is at fault
abbrev pub asked : List Sort → Wanted
asked [] = wanted.Term
asked (s ∷ ss) = wanted.OfSort s

-- each argument is to have the sort at its place
abbrev pub argument_faults : List Sort → List (Wanted → Faults) → Faults
argument_faults ss [] = []
argument_faults ss (a ∷ more) = a (asked ss) ++ argument_faults (drop 1 ss) more

-- what the left side of an equation asks of the right one: its own sort
abbrev pub right_side : Option Sort → Wanted
right_side None = wanted.Term
right_side (Some s) = wanted.OfSort s

module _ (text : List ℕ) (symbols : List Symbol) where
  -- None where a word is no symbol, as the name of a sort
  abbrev pub head_type : Head → Option HeadType
  head_type (head.Word w) = option_map (λ s. record { args = s.args; result = s.result }) (symbol_named symbols (name_of text w))
  head_type (head.Operation op s) = Some (operation_type op)

  -- the sort of the variable that a name is bound to
  abbrev pub bound_sort : Scope → Span → Option Sort
  bound_sort scope s = option_map (λ v. v.sort) (bound_by scope (bytes_at text s))

  -- the sort of a term, by its head
  abbrev pub sort_step : {A : Type 0} → Scope → Term-F A → Option Sort
  sort_step scope (t.Variable s) = bound_sort scope s
  sort_step scope (t.Numeral m) = Some sorts.Int
  sort_step scope (t.Apply h args) = option_map (λ ty. ty.result) (head_type h)

  -- the sort of a term where this is bound
  abbrev pub term_sort : Scope → Term → Option Sort
  term_sort scope u = sort_step scope (out-Term u)

  -- one layer of a term: the fault of its head first, then those of its arguments
  abbrev pub term_faults_step : Scope → Term-F (Wanted → Faults) → Wanted → Faults
  term_faults_step scope (t.Variable s) w = own_fault w s.start (bound_sort scope s)
  term_faults_step scope (t.Numeral m) w = own_fault w m.span.start (Some sorts.Int)
  term_faults_step scope (t.Apply h args) w = head_fault w (head_place h) (length args) (head_type h) ++ argument_faults (arguments (head_type h)) args

  -- the faults of a term where something is asked of it, in reading order
  abbrev pub term_faults : Scope → Term → Wanted → Faults
  term_faults scope = fold-Term (Wanted → Faults) (term_faults_step scope)

  -- the faults of an equation: its left side is a term, its right side one of the same sort
  abbrev pub relation_faults : Scope → Term → Term → Faults
  relation_faults scope s u = term_faults scope s wanted.Term ++ term_faults scope u (right_side (term_sort scope s))
