-- What the bytes of a text give: its statements, or its first fault.
use Rattle.std.specs.Prelude.{◌≡◌, ◌⊎◌, ℕ, ◌-◌, List, length, Option, Some, None, is_some, slice_get}
use Rattle.tff_lexer.specs.declared.spans.Token.{Token}
use Rattle.tff_lexer.specs.Scans.{Scans}
use Rattle.tff_grammar.specs.declared.faults.FaultName.{FaultName}
use Rattle.tff_grammar.specs.declared.faults.FaultName.TheVariants as n
use Rattle.tff_grammar.specs.declared.faults.Fault.{Fault}
use Rattle.tff_grammar.specs.declared.faults.Found.{Found}
use Rattle.tff_grammar.specs.declared.faults.ParseError.{ParseError}
use Rattle.tff_grammar.specs.declared.faults.ParseError.TheVariants as errors
use Rattle.tff_grammar.specs.declared.pieces.Piece.{Piece}
use Rattle.tff_grammar.specs.declared.trees.Statement.{Statement}
use Rattle.tff_grammar.specs.FirstFault.{IsFile, IsFirst}
use Rattle.tff_grammar.specs.Pieces.{ArePieces}

-- The bytes are a text of the grammar without a fault, and these are its statements.
pub record IsText (bytes : List ℕ) (statements : List Statement) : Type 0 where
  pub tokens : List Token
  pub pieces : List Piece
  pub scanned : Scans bytes tokens None
  pub classified : ArePieces bytes tokens pieces
  pub file : IsFile pieces statements

-- the place behind all tokens: the byte at which no token begins, or the length of the text
abbrev pub end_place : ℕ → Option ℕ → ℕ
end_place total (Some at) = at
end_place total None = total

-- the byte at which a token begins, or the place behind all of them
abbrev pub byte_of : ℕ → Option Token → ℕ
byte_of behind (Some t) = t.start
byte_of behind None = behind

-- the first fault of the bytes: its name, the token that stands there, and its byte
pub record IsFirstFault (bytes : List ℕ) (fault : Fault) : Type 0 where
  pub tokens : List Token
  pub stop : Option ℕ
  pub pieces : List Piece
  pub at : ℕ
  pub scanned : Scans bytes tokens stop
  pub classified : ArePieces bytes tokens pieces
  pub first : IsFirst pieces (is_some stop) at fault.name
  pub token : fault.token ≡ slice_get tokens at
  pub place : fault.at ≡ byte_of (end_place (length bytes) stop) fault.token

-- The bytes are a text without a fault, or have a first fault.
abbrev pub HasAnswer : List ℕ → Type 0
HasAnswer bytes = ((statements : List Statement) × IsText bytes statements) ⊎ ((fault : Fault) × IsFirstFault bytes fault)

-- Memory ran out, or this is the first fault.
abbrev pub Explains : List ℕ → ParseError → Type 0
Explains bytes errors.Memory = Unit {0}
Explains bytes (errors.Fault f) = IsFirstFault bytes f

-- ---- private contracts alone cite what follows

-- where no token begins at the end, that is the fault there
abbrev pub name_there : Option ℕ → Option Token → FaultName → FaultName
name_there (Some at) None name = n.Lex
name_there stop token name = name

-- the fault that stands in front of so many tokens
pub record IsThere (total : ℕ) (tokens : List Token) (stop : Option ℕ) (found : Found) (fault : Fault) : Type 0 where
  pub token : fault.token ≡ slice_get tokens (length tokens - found.left)
  pub place : fault.at ≡ byte_of (end_place total stop) fault.token
  pub name : fault.name ≡ name_there stop fault.token found.name
