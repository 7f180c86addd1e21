-- The tokens of what is written, in front of the tokens that follow. Each has the number of levels that it stands in: `~`, a
-- quantifier and `(` behind `tff(` open one, and stand in it.
use Rattle.std.specs.Prelude.{ℕ, ◌+◌, List, [], ◌∷◌, Option, Some, None}
use Rattle.tff_grammar.specs.declared.pieces.Sign.TheVariants.{OpenRound, CloseRound, OpenSquare, CloseSquare, Comma, Dot, Colon, Not, Star, Arrow}
use Rattle.tff_grammar.specs.declared.pieces.Junction.{Junction}
use Rattle.tff_grammar.specs.declared.pieces.Keyword.TheVariants.{Tff, Declaration, Conjecture, Premise}
use Rattle.tff_grammar.specs.declared.pieces.Piece.{Piece}
use Rattle.tff_grammar.specs.declared.pieces.Piece.TheVariants as piece
use Rattle.tff_grammar.specs.Grammar.{WordTree, lower, quoted, NameTree, named, numbered, ArgumentTree, declared, basic, SortTree, of_argument, truth, ArgsTree, one, several, TypeTree, of_types, constant, function, bracketed, TypingTree, typing, enclosed, HeadTree, head_word, head_operation, TermTree, variable, numeral, apply, ArgumentsTree, no_arguments, arguments, TermsTree, no_terms, next_term, SecondTree, no_second, second, VariableTree, UnitTree, negated, quantified, grouped, truth_value, atomic, FormulaTree, formula, TailTree, alone, linked, joined, UnitsTree, no_units, next_unit, NotesTree, no_notes, token, round, square, EndingTree, bare, annotated, BodyTree, declaration, premise, conjecture, StatementTree, FileTree, no_statements, next_statement}

-- a token, and the levels that it stands in
abbrev pub Leveled : Type 0
Leveled = Piece × ℕ

-- tokens with their levels
abbrev pub Leveleds : Type 0
Leveleds = List Leveled

-- ---- words and types, where n levels are open

-- a word
abbrev pub word_text : ℕ → WordTree → Leveleds → Leveleds
word_text n (lower k s) rest = (piece.Lower k s, n) ∷ rest
word_text n (quoted s) rest = (piece.Quoted s, n) ∷ rest

-- a statement's name, in no level
abbrev pub name_text : NameTree → Leveleds → Leveleds
name_text (named w) rest = word_text 0 w rest
name_text (numbered m) rest = (piece.Numeral m, 0) ∷ rest

-- the sort of an argument or a variable
abbrev pub argument_text : ℕ → ArgumentTree → Leveleds → Leveleds
argument_text n (declared w) rest = word_text n w rest
argument_text n (basic b) rest = (piece.Basic b, n) ∷ rest

-- a sort
abbrev pub sort_text : ℕ → SortTree → Leveleds → Leveleds
sort_text n (of_argument a) rest = argument_text n a rest
sort_text n truth rest = (piece.Truth, n) ∷ rest

-- each behind a `*`
abbrev pub more_arguments : ℕ → List ArgumentTree → Leveleds → Leveleds
more_arguments n [] rest = rest
more_arguments n (a ∷ more) rest = (piece.Sign Star, n) ∷ argument_text n a (more_arguments n more rest)

-- the sorts in front of a `>`, in a bracket or not
abbrev pub args_text : ℕ → ArgsTree → Leveleds → Leveleds
args_text n (one a) rest = argument_text n a rest
args_text n (several a more) rest = (piece.Sign OpenRound, n + 1) ∷ argument_text (n + 1) a (more_arguments (n + 1) more ((piece.Sign CloseRound, n + 1) ∷ rest))

-- a type
abbrev pub type_text : ℕ → TypeTree → Leveleds → Leveleds
type_text n of_types rest = (piece.OfTypes, n) ∷ rest
type_text n (constant s) rest = sort_text n s rest
type_text n (function args s) rest = args_text n args ((piece.Sign Arrow, n) ∷ sort_text n s rest)
type_text n (bracketed t) rest = (piece.Sign OpenRound, n + 1) ∷ type_text (n + 1) t ((piece.Sign CloseRound, n + 1) ∷ rest)

-- a word, `:` and a type, in brackets or not
abbrev pub typing_text : ℕ → TypingTree → Leveleds → Leveleds
typing_text n (typing w t) rest = word_text n w ((piece.Sign Colon, n) ∷ type_text n t rest)
typing_text n (enclosed w) rest = (piece.Sign OpenRound, n + 1) ∷ typing_text (n + 1) w ((piece.Sign CloseRound, n + 1) ∷ rest)

-- ---- terms

-- a head
abbrev pub head_text : ℕ → HeadTree → Leveleds → Leveleds
head_text n (head_word w) rest = word_text n w rest
head_text n (head_operation o s) rest = (piece.Operation o s, n) ∷ rest

abbrev mutual
  pub term_text : ℕ → TermTree → Leveleds → Leveleds
  term_text n (variable s) rest = (piece.Upper s, n) ∷ rest
  term_text n (numeral m) rest = (piece.Numeral m, n) ∷ rest
  term_text n (apply h args) rest = head_text n h (arguments_text n args rest)

  pub arguments_text : ℕ → ArgumentsTree → Leveleds → Leveleds
  arguments_text n no_arguments rest = rest
  arguments_text n (arguments t more) rest = (piece.Sign OpenRound, n + 1) ∷ term_text (n + 1) t (terms_text (n + 1) more ((piece.Sign CloseRound, n + 1) ∷ rest))

  -- each behind a comma
  pub terms_text : ℕ → TermsTree → Leveleds → Leveleds
  terms_text n no_terms rest = rest
  terms_text n (next_term t more) rest = (piece.Sign Comma, n) ∷ term_text n t (terms_text n more rest)

-- a sign and a second term, or nothing
abbrev pub second_text : ℕ → SecondTree → Leveleds → Leveleds
second_text n no_second rest = rest
second_text n (second r t) rest = (piece.Relation r, n) ∷ term_text n t rest

-- ---- formulas

-- `:` and a variable's sort, or nothing
abbrev pub variable_sort_text : ℕ → Option ArgumentTree → Leveleds → Leveleds
variable_sort_text n None rest = rest
variable_sort_text n (Some a) rest = (piece.Sign Colon, n) ∷ argument_text n a rest

-- a bound variable
abbrev pub variable_text : ℕ → VariableTree → Leveleds → Leveleds
variable_text n v rest = (piece.Upper v.name, n) ∷ variable_sort_text n v.sort rest

-- each behind a comma
abbrev pub more_variables : ℕ → List VariableTree → Leveleds → Leveleds
more_variables n [] rest = rest
more_variables n (v ∷ more) rest = (piece.Sign Comma, n) ∷ variable_text n v (more_variables n more rest)

-- the variables up to the bracket
abbrev pub binder_text : ℕ → VariableTree → List VariableTree → Leveleds → Leveleds
binder_text n v more rest = variable_text n v (more_variables n more ((piece.Sign CloseSquare, n) ∷ rest))

abbrev mutual
  pub unit_text : ℕ → UnitTree → Leveleds → Leveleds
  unit_text n (negated u) rest = (piece.Sign Not, n + 1) ∷ unit_text (n + 1) u rest
  unit_text n (quantified q v more u) rest =
      (piece.Quantifier q, n + 1) ∷ (piece.Sign OpenSquare, n + 1) ∷ binder_text (n + 1) v more ((piece.Sign Colon, n + 1) ∷ unit_text (n + 1) u rest)
  unit_text n (grouped g) rest = (piece.Sign OpenRound, n + 1) ∷ formula_text (n + 1) g ((piece.Sign CloseRound, n + 1) ∷ rest)
  unit_text n (truth_value b) rest = (piece.Constant b, n) ∷ rest
  unit_text n (atomic t s) rest = term_text n t (second_text n s rest)

  pub formula_text : ℕ → FormulaTree → Leveleds → Leveleds
  formula_text n (formula u tail) rest = unit_text n u (tail_text n tail rest)

  pub tail_text : ℕ → TailTree → Leveleds → Leveleds
  tail_text n alone rest = rest
  tail_text n (linked l u) rest = (piece.Link l, n) ∷ unit_text n u rest
  tail_text n (joined j u more) rest = (piece.Junction j, n) ∷ unit_text n u (units_text n j more rest)

  -- each behind the sign
  pub units_text : ℕ → Junction → UnitsTree → Leveleds → Leveleds
  units_text n j no_units rest = rest
  units_text n j (next_unit u more) rest = (piece.Junction j, n) ∷ unit_text n u (units_text n j more rest)

-- ---- statements

-- annotations; `(` opens a level there, and `[` none
abbrev pub notes_text : ℕ → NotesTree → Leveleds → Leveleds
notes_text n no_notes rest = rest
notes_text n (token p is_note more) rest = (p, n) ∷ notes_text n more rest
notes_text n (round inner more) rest = (piece.Sign OpenRound, n + 1) ∷ notes_text (n + 1) inner ((piece.Sign CloseRound, n + 1) ∷ notes_text n more rest)
notes_text n (square inner more) rest = (piece.Sign OpenSquare, n) ∷ notes_text n inner ((piece.Sign CloseSquare, n) ∷ notes_text n more rest)

-- `)` and `.`
abbrev pub close_text : Leveleds → Leveleds
close_text rest = (piece.Sign CloseRound, 0) ∷ (piece.Sign Dot, 0) ∷ rest

-- the end of a statement
abbrev pub ending_text : EndingTree → Leveleds → Leveleds
ending_text bare rest = close_text rest
ending_text (annotated notes) rest = (piece.Sign Comma, 0) ∷ notes_text 0 notes (close_text rest)

-- a role, a comma and what it asks for, in no level
abbrev pub body_text : BodyTree → Leveleds → Leveleds
body_text (declaration s w) rest = (piece.Lower Declaration s, 0) ∷ (piece.Sign Comma, 0) ∷ typing_text 0 w rest
body_text (premise s g) rest = (piece.Lower Premise s, 0) ∷ (piece.Sign Comma, 0) ∷ formula_text 0 g rest
body_text (conjecture s g) rest = (piece.Lower Conjecture s, 0) ∷ (piece.Sign Comma, 0) ∷ formula_text 0 g rest

-- a statement
abbrev pub statement_text : StatementTree → Leveleds → Leveleds
statement_text s rest = (piece.Lower Tff s.word, 0) ∷ (piece.Sign OpenRound, 0) ∷ name_text s.name ((piece.Sign Comma, 0) ∷ body_text s.body (ending_text s.ending rest))

-- a file
abbrev pub file_text : FileTree → Leveleds
file_text no_statements = []
file_text (next_statement s more) = statement_text s (file_text more)
