-- The first fault of tokens that are no text: the first token with which no text without a fault goes on, and its name.
use Rattle.std.specs.Prelude.{◌≡◌, ℕ, ◌<◌, ◌≤◌, ◌⊎◌, Bool, true, false, IsTrue, List, [], ◌∷◌, ◌++◌, length, map}
use Rattle.std.specs.List.{AllByRecursion}
use Rattle.tff_grammar.specs.declared.faults.FaultName.{FaultName}
use Rattle.tff_grammar.specs.declared.faults.FaultName.TheVariants as n
use Rattle.tff_grammar.specs.declared.pieces.Span.{Span}
use Rattle.tff_grammar.specs.declared.pieces.Sign.TheVariants.{OpenRound, Star, Not}
use Rattle.tff_grammar.specs.declared.pieces.BasicSort.TheVariants.{Int}
use Rattle.tff_grammar.specs.declared.pieces.Keyword.TheVariants.{Include, Language, Conjecture, Premise}
use Rattle.tff_grammar.specs.declared.pieces.Piece.{Piece}
use Rattle.tff_grammar.specs.declared.pieces.Piece.TheVariants as piece
use Rattle.tff_grammar.specs.declared.trees.Statement.{Statement}
use Rattle.tff_grammar.specs.Grammar.{FileTree, has_one}
use Rattle.tff_grammar.specs.Meaning.{file_of}
use Rattle.tff_grammar.specs.Text.{Leveleds, file_text}

-- the most levels that may be open
abbrev pub max_levels : ℕ
max_levels = 500

-- ---- texts

-- the tokens without their levels
abbrev pub pieces_of : Leveleds → List Piece
pieces_of = map (λ t. t.0)

-- no token stands in more
abbrev pub IsShallow : Leveleds → Type 0
IsShallow = AllByRecursion (λ t. t.1 ≤ max_levels)

-- A text of the grammar without a fault: one conjecture at most, and no level past the limit. What else is a fault, as an
-- unsupported word or a numeral out of the range, has no place in the grammar's trees.
pub record IsFaultless (file : FileTree) : Type 0 where
  pub one : IsTrue (has_one file false)
  pub shallow : IsShallow (file_text file)

-- the tokens are those of the file, without a fault
pub record Spells (file : FileTree) (ps : List Piece) : Type 0 where
  pub faultless : IsFaultless file
  pub spelled : pieces_of (file_text file) ≡ ps

-- the tokens are those of a file without a fault, and these are its statements
pub record IsFile (ps : List Piece) (statements : List Statement) : Type 0 where
  pub file : FileTree
  pub spells : Spells file ps
  pub meant : statements ≡ file_of file

-- the tokens of this text are these and others behind them
pub record Begins (file : FileTree) (front : List Piece) : Type 0 where
  pub before : Leveleds
  pub behind : Leveleds
  pub split : file_text file ≡ before ++ behind
  pub spelled : pieces_of before ≡ front

-- a text without a fault begins so
abbrev pub GoesOn : List Piece → Type 0
GoesOn front = (file : FileTree) × IsFaultless file × Begins file front

-- a text does that has no fault but levels past the limit
abbrev pub GoesOnDeeper : List Piece → Type 0
GoesOnDeeper front = (file : FileTree) × IsTrue (has_one file false) × Begins file front

-- ---- places

-- These tokens are a text without a fault, so a statement may begin behind them.
abbrev pub AtStart : List Piece → Type 0
AtStart front = (file : FileTree) × Spells file front

-- Premises may have their role here.
abbrev pub AtRole : List Piece → Type 0
AtRole front = (s : Span) × GoesOn (front ++ piece.Lower Premise s ∷ [])

-- The sort of a result, or of an argument behind a `*`, may stand here.
abbrev pub AtSort : List Piece → Type 0
AtSort front = GoesOn (front ++ piece.Truth ∷ []) ⊎ GoesOn (front ++ piece.Basic Int ∷ piece.Sign Star ∷ [])

-- Each token that may stand here stands in the most levels.
abbrev pub AtMostLevels : List Piece → Type 0
AtMostLevels front =
    (file : FileTree) (before behind : Leveleds) (t : Piece × ℕ) → IsFaultless file → file_text file ≡ before ++ t ∷ behind → pieces_of before ≡ front → max_levels ≤ t.1

-- ---- names

-- a token that opens a level: `(`, `~` or a quantifier
abbrev pub IsOpener : Piece → Type 0
IsOpener (piece.Sign OpenRound) = Unit {0}
IsOpener (piece.Sign Not) = Unit {0}
IsOpener (piece.Quantifier q) = Unit {0}
IsOpener p = ⊥

-- What is supported nowhere, or not where a statement or a role may come, or a sort.
abbrev pub IsUnsupported : Type 0 → Type 0 → Type 0 → Piece → Type 0
IsUnsupported start role sort piece.Unsupported = Unit {0}
IsUnsupported start role sort (piece.Lower Conjecture s) = ⊥
IsUnsupported start role sort (piece.Lower Include s) = start ⊎ role
IsUnsupported start role sort (piece.Lower k s) = role
IsUnsupported start role sort piece.OfTypes = sort
IsUnsupported start role sort p = ⊥

-- The names that fit a token, where these say of its place: statements may end there, premises may have their role there, a sort
-- may stand there, and no further level may be opened there.
abbrev pub FitsWhere : Type 0 → Type 0 → Type 0 → Type 0 → Piece → FaultName → Type 0
FitsWhere start role sort full p n.Lex = ⊥
FitsWhere start role sort full p n.Unsupported = IsUnsupported start role sort p
FitsWhere start role sort full p n.Language = (s : Span) × (p ≡ piece.Lower Language s) × start
FitsWhere start role sort full p n.TwoConjectures = (s : Span) × (p ≡ piece.Lower Conjecture s) × role
FitsWhere start role sort full p n.TooDeep = IsOpener p × full
FitsWhere start role sort full p n.NumberTooWide = p ≡ piece.WideNumeral
FitsWhere start role sort full p n.Syntax = Unit {0}

-- the names that fit a token with which no text goes on
abbrev pub Fits : List Piece → Piece → FaultName → Type 0
Fits front p name = FitsWhere (AtStart front) (AtRole front) (AtSort front) (GoesOnDeeper (front ++ p ∷ []) ⊎ AtMostLevels front) p name

-- the order of the names
abbrev pub rank : FaultName → ℕ
rank n.Lex = 0
rank n.Unsupported = 1
rank n.Language = 2
rank n.TwoConjectures = 3
rank n.TooDeep = 4
rank n.NumberTooWide = 5
rank n.Syntax = 6

-- ---- faults

-- a fault of this name, behind so many tokens; `stopped`: behind the last one no token begins
pub data FaultAt (ps : List Piece) (stopped : Bool) (at : ℕ) (name : FaultName) : Type 0 where
  -- no text goes on with a token
  stuck : (front left : List Piece) (p : Piece) → ps ≡ front ++ p ∷ left → length front ≡ at → GoesOn front → (GoesOn (front ++ p ∷ []) → ⊥) → Fits front p name
      → FaultAt ps stopped at name
  -- A `$o` is the sort of an argument or a variable: with `$int` in its place a text goes on, and with it none.
  argument : (front mid left : List Piece) → ps ≡ front ++ piece.Truth ∷ (mid ++ left) → length front ≡ at → GoesOn (front ++ piece.Basic Int ∷ mid)
      → (GoesOn (front ++ piece.Truth ∷ mid) → ⊥) → name ≡ n.Unsupported → FaultAt ps stopped at name
  -- no token begins behind them
  no_token : stopped ≡ true → length ps ≡ at → GoesOn ps → name ≡ n.Lex → FaultAt ps stopped at name
  -- the text ends too early
  too_early : stopped ≡ false → length ps ≡ at → GoesOn ps → (AtStart ps → ⊥) → name ≡ n.Syntax → FaultAt ps stopped at name

-- the first fault, and of several at one token the first in the order of the names
pub record IsFirst (ps : List Piece) (stopped : Bool) (at : ℕ) (name : FaultName) : Type 0 where
  pub fault : FaultAt ps stopped at name
  pub first : (other : ℕ) (name' : FaultName) → FaultAt ps stopped other name' → (at < other) ⊎ ((at ≡ other) × (rank name ≤ rank name'))
