-- The places that syntax trees keep, in the order in which they stand there.
use Rattle.std.specs.Prelude.{ℕ, ◌<◌, ◌≤◌, List, [], ◌∷◌, ◌++◌, flat_map}
use Rattle.std.specs.Option.{option_map_or}
use Rattle.tff_grammar.specs.declared.pieces.Span.{Span}
use Rattle.tff_grammar.specs.declared.trees.Word.{Word}
use Rattle.tff_grammar.specs.declared.trees.Word.TheVariants as word
use Rattle.tff_grammar.specs.declared.trees.Sort.{Sort}
use Rattle.tff_grammar.specs.declared.trees.Sort.TheVariants as sort
use Rattle.tff_grammar.specs.declared.trees.DeclaredType.{DeclaredType}
use Rattle.tff_grammar.specs.declared.trees.DeclaredType.TheVariants as type
use Rattle.tff_grammar.specs.declared.trees.Head.{Head}
use Rattle.tff_grammar.specs.declared.trees.Head.TheVariants as head
use Rattle.tff_grammar.specs.declared.trees.Term.{Term}
use Rattle.tff_grammar.specs.declared.trees.Term.TheOpen as t
use Rattle.tff_grammar.specs.declared.trees.Term.TheOpen.{Term-F}
use Rattle.tff_grammar.specs.declared.trees.Term.TheFolds.{fold-Term}
use Rattle.tff_grammar.specs.declared.trees.Variable.{Variable}
use Rattle.tff_grammar.specs.declared.trees.Formula.{Formula}
use Rattle.tff_grammar.specs.declared.trees.Formula.TheOpen as f
use Rattle.tff_grammar.specs.declared.trees.Formula.TheOpen.{Formula-F}
use Rattle.tff_grammar.specs.declared.trees.Formula.TheFolds.{fold-Formula}
use Rattle.tff_grammar.specs.declared.trees.Content.{Content}
use Rattle.tff_grammar.specs.declared.trees.Content.TheVariants as content
use Rattle.tff_grammar.specs.declared.trees.Statement.{Statement}

-- The places from byte `from` on: none is empty, none begins before the last one's end, none passes the end of the text.
abbrev pub PlacesAscend : ℕ → ℕ → List Span → Type 0
PlacesAscend total from [] = from ≤ total
PlacesAscend total from (s ∷ ss) = (from ≤ s.start) × (s.start < s.«end») × PlacesAscend total s.«end» ss

-- the place of a word
abbrev pub word_places : Word → List Span
word_places (word.Lower s) = s ∷ []
word_places (word.Quoted s) = s ∷ []

-- that of a sort, which has one where it is a word
abbrev pub sort_places : Sort → List Span
sort_places (sort.Word w) = word_places w
sort_places (sort.Basic b) = []
sort_places sort.Truth = []

-- those of the sorts of a type
abbrev pub type_places : DeclaredType → List Span
type_places type.OfTypes = []
type_places (type.Function args s) = flat_map sort_places args ++ sort_places s

-- that of a head
abbrev pub head_places : Head → List Span
head_places (head.Word w) = word_places w
head_places (head.Operation o s) = s ∷ []

-- those of a layer of a term
abbrev pub term_places_step : Term-F (List Span) → List Span
term_places_step (t.Variable s) = s ∷ []
term_places_step (t.Numeral m) = m.span ∷ []
term_places_step (t.Apply h args) = head_places h ++ flat_map (λ ss. ss) args

-- those of the heads, variables and numerals of a term
abbrev pub term_places : Term → List Span
term_places = fold-Term (List Span) term_places_step

-- that of a bound variable's name, and of its sort
abbrev pub variable_places : Variable → List Span
variable_places v = v.name ∷ option_map_or sort_places v.sort []

-- those of a layer of a formula
abbrev pub formula_places_step : Formula-F (List Span) → List Span
formula_places_step (f.Constant b) = []
formula_places_step (f.Atom s) = term_places s
formula_places_step (f.Relation r s u) = term_places s ++ term_places u
formula_places_step (f.Not g) = g
formula_places_step (f.Quantified q vs g) = flat_map variable_places vs ++ g
formula_places_step (f.Linked l g h) = g ++ h
formula_places_step (f.Joined j gs) = flat_map (λ ss. ss) gs

-- those of the variables that a formula binds, and of its terms
abbrev pub formula_places : Formula → List Span
formula_places = fold-Formula (List Span) formula_places_step

-- those of what a statement says
abbrev pub content_places : Content → List Span
content_places (content.Declaration w t) = word_places w ++ type_places t
content_places (content.Premise g) = formula_places g
content_places (content.Conjecture g) = formula_places g

-- that of a statement's name, and those of what it says
abbrev pub statement_places : Statement → List Span
statement_places s = s.name ∷ content_places s.content

-- those of all statements
abbrev pub places : List Statement → List Span
places = flat_map statement_places
