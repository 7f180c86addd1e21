-- The texts of substitutions: distinct variables in ascending order, and none for itself.
use Rattle.std.specs.Prelude.{◌≡◌, ℕ, ◌+◌, Bool, true, false, ◌||◌, nat_lt, List, [], ◌∷◌, ◌++◌, Option, Some, None, codes, ◌==◌}
use Rattle.term_base.specs.declared.variables.Variable.{Variable}
use Rattle.term_base.specs.declared.terms.Term.{Term}
use Rattle.term_base.specs.declared.terms.Term.TheVariants as term
use Rattle.term_base.specs.SameTerm.{same_term}
use Rattle.term_base.specs.SubstTest.{follows}
use Rattle.term_text.specs.Texts.{variable_text}
use Rattle.text_pieces.specs.Languages.{HasSpelling, Cat, Image}
use Rattle.text_pieces.specs.Fronts.{Front, Word}
use Rattle.text_pieces.specs.Kinds.{OneKind}
use Rattle.text_pieces.specs.Runs.{Run}
use Rattle.term_text.specs.Terms.{SpellsTerm}
use Rattle.term_text.specs.Variables.{SpellsVariable, rank}

-- a variable above the last one, if there is one
pub record VariableAfter (last : Option Variable) (v : Variable) (text : List ℕ) : Type 0 where
  pub spelled : SpellsVariable v text
  pub after : follows last v ≡ true

-- a term other than the variable
pub record TermBut (v : Variable) (t : Term) (text : List ℕ) : Type 0 where
  pub spelled : SpellsTerm t text
  pub other : same_term t (term.Var v) ≡ false

-- a variable above the last one, and the term for it
abbrev pub PairAfter : Option Variable → Variable × Term → List ℕ → Type 0
PairAfter last = Cat (VariableAfter last) (λ v. Front (codes ">") (TermBut v))

-- more pairs, each behind a comma, up to the closing bracket
abbrev pub MorePairs : Option Variable → List (Variable × Term) → List ℕ → Type 0
MorePairs = Run (λ last. Front (codes ",") (PairAfter last)) (λ last p. Some p.0) (codes "]")

-- no pair or some, and the closing bracket
abbrev pub PairsParts : Bool → List (Variable × Term) → List ℕ → Type 0
PairsParts true = Image (λ (u : Unit {0}). []) (Word (codes "]"))
PairsParts false = Image (λ (p : (Variable × Term) × List (Variable × Term)). p.0 ∷ p.1) (Cat (PairAfter None) (λ p. MorePairs (Some p.0)))

-- a substitution, by its pairs
abbrev pub SpellsSubst : List (Variable × Term) → List ℕ → Type 0
SpellsSubst = Front (codes "[") (OneKind PairsParts)

-- whether the first byte is the closing bracket
abbrev pub is_closing : ℕ → Bool
is_closing b = b == 93

-- ---- how a substitution is read and printed
-- the number from which variables are above the last one, if there is one
abbrev pub low_after : Option Variable → ℕ
low_after None = 0
low_after (Some v) = rank v + 1

-- the last variable, if there is one, has numbers of 32 bits
abbrev pub IsNumbered : Option Variable → Type 0
IsNumbered None = Unit {0}
IsNumbered (Some v) = HasSpelling SpellsVariable v

-- no longer number of 32 bits begins with the digits of this one
abbrev pub is_full : ℕ → Bool
is_full id = (id == 0) || nat_lt 429496729 id

-- what follows the text of the variable in front of the bytes, if it stands there
abbrev pub BehindVariable : Variable → List ℕ → Option (List ℕ) → Type 0
BehindVariable v bytes None = (rest : List ℕ) → bytes ≡ variable_text v ++ rest → ⊥
BehindVariable v bytes (Some rest) = bytes ≡ variable_text v ++ rest

-- any variable, and the term for it
abbrev pub SpellsPair : Variable × Term → List ℕ → Type 0
SpellsPair = Cat SpellsVariable (λ v. Front (codes ">") SpellsTerm)

-- any pairs, each behind a comma, and the closing bracket
abbrev pub SpellsMore : List (Variable × Term) → List ℕ → Type 0
SpellsMore = Run (λ (u : Unit {0}). Front (codes ",") SpellsPair) (λ u p. u) (codes "]") tt
