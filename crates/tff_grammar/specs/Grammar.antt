-- What is written: one type of tree for each word of the grammar of texts without a fault. A leaf keeps its place.
use Rattle.std.specs.Prelude.{Bool, true, false, not, ◌&&◌, IsTrue, List, Option}
use Rattle.tff_grammar.specs.declared.pieces.Span.{Span}
use Rattle.tff_grammar.specs.declared.pieces.Number.{Number}
use Rattle.tff_grammar.specs.declared.pieces.Sign.TheVariants.{OpenRound, CloseRound, OpenSquare, CloseSquare}
use Rattle.tff_grammar.specs.declared.pieces.Junction.{Junction}
use Rattle.tff_grammar.specs.declared.pieces.Link.{Link}
use Rattle.tff_grammar.specs.declared.pieces.Quantifier.{Quantifier}
use Rattle.tff_grammar.specs.declared.pieces.Relation.{Relation}
use Rattle.tff_grammar.specs.declared.pieces.BasicSort.{BasicSort}
use Rattle.tff_grammar.specs.declared.pieces.Operation.{Operation}
use Rattle.tff_grammar.specs.declared.pieces.Keyword.{Keyword}
use Rattle.tff_grammar.specs.declared.pieces.Piece.{Piece}
use Rattle.tff_grammar.specs.declared.pieces.Piece.TheVariants as piece

-- word ::= lower | quoted
pub data WordTree : Type 0 where
  lower : Keyword → Span → WordTree
  quoted : Span → WordTree

-- name ::= word | numeral
pub data NameTree : Type 0 where
  named : WordTree → NameTree
  numbered : Number → NameTree

-- argument ::= word | '$i' | '$int': the sort of an argument or a variable
pub data ArgumentTree : Type 0 where
  declared : WordTree → ArgumentTree
  basic : BasicSort → ArgumentTree

-- sort ::= argument | '$o'
pub data SortTree : Type 0 where
  of_argument : ArgumentTree → SortTree
  truth : SortTree

-- args ::= argument | '(' argument { '*' argument } ')'
pub data ArgsTree : Type 0 where
  one : ArgumentTree → ArgsTree
  several : ArgumentTree → List ArgumentTree → ArgsTree

-- type ::= '$tType' | sort | args '>' sort | '(' type ')'
pub data TypeTree : Type 0 where
  of_types : TypeTree
  constant : SortTree → TypeTree
  function : ArgsTree → SortTree → TypeTree
  bracketed : TypeTree → TypeTree

-- typing ::= word ':' type | '(' typing ')'
pub data TypingTree : Type 0 where
  typing : WordTree → TypeTree → TypingTree
  enclosed : TypingTree → TypingTree

-- head ::= word | an arithmetic word
pub data HeadTree : Type 0 where
  head_word : WordTree → HeadTree
  head_operation : Operation → Span → HeadTree

mutual
  -- term ::= variable | numeral | head arguments
  pub data TermTree : Type 0 where
    variable : Span → TermTree
    numeral : Number → TermTree
    apply : HeadTree → ArgumentsTree → TermTree

  -- arguments ::= | '(' term { ',' term } ')'
  pub data ArgumentsTree : Type 0 where
    no_arguments : ArgumentsTree
    arguments : TermTree → TermsTree → ArgumentsTree

  -- terms ::= { ',' term }
  pub data TermsTree : Type 0 where
    no_terms : TermsTree
    next_term : TermTree → TermsTree → TermsTree

-- second ::= | ('=' | '!=') term
pub data SecondTree : Type 0 where
  no_second : SecondTree
  second : Relation → TermTree → SecondTree

-- var ::= upper [ ':' argument ]
pub record VariableTree : Type 0 where
  pub name : Span
  pub sort : Option ArgumentTree

mutual
  -- unit ::= '~' unit | ('!' | '?') '[' var { ',' var } ']' ':' unit | '(' formula ')' | '$true' | '$false' | term second
  pub data UnitTree : Type 0 where
    negated : UnitTree → UnitTree
    quantified : Quantifier → VariableTree → List VariableTree → UnitTree → UnitTree
    grouped : FormulaTree → UnitTree
    truth_value : Bool → UnitTree
    atomic : TermTree → SecondTree → UnitTree

  -- formula ::= unit tail
  pub data FormulaTree : Type 0 where
    formula : UnitTree → TailTree → FormulaTree

  -- tail ::= | link unit | '&' unit { '&' unit } | '|' unit { '|' unit }
  pub data TailTree : Type 0 where
    alone : TailTree
    linked : Link → UnitTree → TailTree
    joined : Junction → UnitTree → UnitsTree → TailTree

  -- units ::= { unit }, each behind the sign of the chain
  pub data UnitsTree : Type 0 where
    no_units : UnitsTree
    next_unit : UnitTree → UnitsTree → UnitsTree

-- what may stand in annotations beside brackets
abbrev pub is_note : Piece → Bool
is_note (piece.Sign OpenRound) = false
is_note (piece.Sign CloseRound) = false
is_note (piece.Sign OpenSquare) = false
is_note (piece.Sign CloseSquare) = false
is_note piece.WideNumeral = false
is_note p = true

-- notes ::= { token | '(' notes ')' | '[' notes ']' }
pub data NotesTree : Type 0 where
  no_notes : NotesTree
  token : (p : Piece) → IsTrue (is_note p) → NotesTree → NotesTree
  round : NotesTree → NotesTree → NotesTree
  square : NotesTree → NotesTree → NotesTree

-- ending ::= [ ',' notes ] ')' '.'
pub data EndingTree : Type 0 where
  bare : EndingTree
  annotated : NotesTree → EndingTree

-- body ::= 'type' ',' typing | a role of premises ',' formula | 'conjecture' ',' formula
pub data BodyTree : Type 0 where
  declaration : Span → TypingTree → BodyTree
  premise : Span → FormulaTree → BodyTree
  conjecture : Span → FormulaTree → BodyTree

-- statement ::= 'tff' '(' name ',' body ending
pub record StatementTree : Type 0 where
  pub word : Span
  pub name : NameTree
  pub body : BodyTree
  pub ending : EndingTree

-- file ::= { statement }
pub data FileTree : Type 0 where
  no_statements : FileTree
  next_statement : StatementTree → FileTree → FileTree

-- A statement is a conjecture only where none came before (`again`), and the further ones hold by whether one has come.
abbrev pub one_from : Bool → BodyTree → (Bool → Bool) → Bool
one_from again (declaration s w) more = more again
one_from again (premise s g) more = more again
one_from again (conjecture s g) more = not again && more true

-- at most one statement is a conjecture, and none where one came before
abbrev pub has_one : FileTree → Bool → Bool
has_one no_statements again = true
has_one (next_statement s more) again = one_from again s.body (has_one more)
