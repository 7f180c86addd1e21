-- What `read` answers: the problem of a text, or the first fault over all phases.
use Rattle.std.specs.Prelude.{◌≡◌, ℕ, List, [], ◌∷◌, ◌++◌, Option, Some, None, flat_map, codes}
use Rattle.std.specs.Fmt.{decimal}
use Rattle.std.specs.Char.{encode_utf8}
use Rattle.tff_lexer.specs.declared.spans.Token.{Token}
use Rattle.tff_lexer.specs.declared.spans.TokenKind.{TokenKind}
use Rattle.tff_lexer.specs.declared.spans.TokenKind.TheVariants as kind
use Rattle.tff_grammar.specs.declared.faults.FaultName.{FaultName}
use Rattle.tff_grammar.specs.declared.faults.FaultName.TheVariants as early
use Rattle.tff_grammar.specs.declared.faults.Fault.{Fault}
use Rattle.tff_grammar.specs.declared.trees.Statement.{Statement}
use Rattle.tff_grammar.specs.Pieces.{bytes_of}
use Rattle.tff_grammar.specs.Answer.{IsText, IsFirstFault}
use Rattle.formula_base.specs.declared.problems.Problem.{Problem}
use Rattle.tff_signature.specs.declared.faults.LaterName.{LaterName}
use Rattle.tff_signature.specs.declared.faults.LaterName.TheVariants as late
use Rattle.tff_signature.specs.declared.faults.Later.{Later}
use Rattle.tff_reader.specs.declared.refusals.RefusedName.{RefusedName}
use Rattle.tff_reader.specs.declared.refusals.RefusedName.TheVariants as n
use Rattle.tff_reader.specs.declared.refusals.Refused.{Refused}
use Rattle.tff_reader.specs.declared.refusals.ReadError.{ReadError}
use Rattle.tff_reader.specs.declared.refusals.ReadError.TheVariants as errors
use Rattle.tff_signature.specs.Faults.{Faults}
use Rattle.tff_signature.specs.Declarations.{phase_2}
use Rattle.tff_reader.specs.NumberTerms.{phase_4}
use Rattle.tff_reader.specs.Meaning.{phase_3, problem_of}

-- the faults behind the grammar, phase after phase, in each in file order
abbrev pub later_faults : List ℕ → List Statement → Faults
later_faults text statements = phase_2 text statements ++ phase_3 text statements ++ phase_4 statements

-- The bytes are a text of the grammar without a fault in any phase, and it means this problem.
pub record IsProblem (bytes : List ℕ) (problem : Problem) : Type 0 where
  pub statements : List Statement
  pub text : IsText bytes statements
  pub faultless : later_faults bytes statements ≡ []
  pub meant : problem ≡ problem_of bytes statements

-- ---- what is printed

-- the name of a refusal as it is printed
abbrev pub shown_name : RefusedName → List ℕ
shown_name n.Lex = codes "Lex"
shown_name n.Unsupported = codes "Unsupported"
shown_name n.Language = codes "Language"
shown_name n.TwoConjectures = codes "TwoConjectures"
shown_name n.TooDeep = codes "TooDeep"
shown_name n.NumberTooWide = codes "NumberTooWide"
shown_name n.Syntax = codes "Syntax"
shown_name n.Redeclared = codes "Redeclared"
shown_name n.UnknownSort = codes "UnknownSort"
shown_name n.IllTyped = codes "IllTyped"
shown_name n.NonLinear = codes "NonLinear"

-- a blank and the word, where there is one
abbrev pub shown_word : List ℕ → List ℕ
shown_word [] = []
shown_word (b ∷ bs) = 32 ∷ flat_map encode_utf8 (b ∷ bs)

-- the line that tells a refusal; each byte of the word is a character
abbrev pub line : Refused → List ℕ
line r = codes "% refused: " ++ shown_name r.name ++ codes " at " ++ decimal r.at ++ shown_word r.word

-- ---- the first fault

-- a name of the grammar as that of a refusal
abbrev pub early_name : FaultName → RefusedName
early_name early.Lex = n.Lex
early_name early.Unsupported = n.Unsupported
early_name early.Language = n.Language
early_name early.TwoConjectures = n.TwoConjectures
early_name early.TooDeep = n.TooDeep
early_name early.NumberTooWide = n.NumberTooWide
early_name early.Syntax = n.Syntax

-- a name behind the grammar as that of a refusal
abbrev pub later_name : LaterName → RefusedName
later_name late.Redeclared = n.Redeclared
later_name late.UnknownSort = n.UnknownSort
later_name late.IllTyped = n.IllTyped
later_name late.NonLinear = n.NonLinear
later_name late.NumberTooWide = n.NumberTooWide

-- what is said of an unsupported token: its text, or what it is
abbrev pub token_word : List ℕ → Token → TokenKind → List ℕ
token_word bytes t kind.Distinct = codes "distinct"
token_word bytes t kind.Rational = codes "rational"
token_word bytes t kind.Real = codes "real"
token_word bytes t _ = bytes_of bytes t

-- the word of a refusal, which Unsupported alone has
abbrev pub word_of : List ℕ → FaultName → Option Token → List ℕ
word_of bytes early.Unsupported (Some t) = token_word bytes t t.kind
word_of bytes name token = []

-- a fault of the grammar as a refusal
abbrev pub refused_early : List ℕ → Fault → Refused
refused_early bytes f = record { name = early_name f.name; at = f.at; word = word_of bytes f.name f.token }

-- a fault behind the grammar as a refusal, which has no word
abbrev pub refused_later : Later → Refused
refused_later f = record { name = later_name f.name; at = f.at; word = [] }

-- the refusal is the first fault: the first one of the grammar, or of a text of the grammar that of the first phase behind it that has one
pub data IsRefused (bytes : List ℕ) (refused : Refused) : Type 0 where
  by_grammar : (fault : Fault) → IsFirstFault bytes fault → refused ≡ refused_early bytes fault → IsRefused bytes refused
  behind_grammar : (statements : List Statement) (fault : Later) (others : Faults) → IsText bytes statements → later_faults bytes statements ≡ fault ∷ others
      → refused ≡ refused_later fault → IsRefused bytes refused

-- Memory ran out, or this is the first fault.
abbrev pub Explains : List ℕ → ReadError → Type 0
Explains bytes errors.Memory = Unit {0}
Explains bytes (errors.Refused r) = IsRefused bytes r
