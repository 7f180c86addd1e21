-- The texts of terms.
use Rattle.std.specs.Prelude.{◌≡◌, ℕ, zero, suc, ℤ, Bool, ◌||◌, List, [], ◌∷◌, ◌++◌, Option, Some, None, codes, ◌==◌, if◌then◌else◌}
use Rattle.term_base.specs.declared.terms.Term.{Term}
use Rattle.term_base.specs.declared.terms.Term.TheVariants as term
use Rattle.term_base.specs.declared.terms.Term.TheOpen as layer
use Rattle.term_base.specs.declared.terms.Term.TheOpen.{Term-F}
use Rattle.term_base.specs.declared.terms.Term.TheFolds.{fold-Term}
use Rattle.text_pieces.specs.Decimals.{is_digit}
use Rattle.text_pieces.specs.Languages.{Cat, Image}
use Rattle.text_pieces.specs.Printing.{Adds}
use Rattle.text_pieces.specs.Numbers.{Number, Word32, Signed, Signed128}
use Rattle.text_pieces.specs.Fronts.{Front, Word}
use Rattle.text_pieces.specs.Kinds.{OneKind}
use Rattle.text_pieces.specs.Runs.{Run}
use Rattle.term_text.specs.declared.kinds.TermKind.{TermKind}
use Rattle.term_text.specs.declared.kinds.TermKind.TheVariants.{Variable as VariableTerm, Number as NumberTerm, Truth, Bracket, Symbol}
use Rattle.term_text.specs.declared.kinds.Operation.{Operation}
use Rattle.term_text.specs.declared.kinds.Operation.TheVariants.{Plus, Times}
use Rattle.term_text.specs.Variables.{SpellsVariable}

-- ---- what stands in brackets
-- the number that a term is, if it is one
abbrev pub number_step : Term-F (Option ℤ) → Option ℤ
number_step (layer.Num n) = Some n
number_step _ = None

abbrev pub number_of : Term → Option ℤ
number_of = fold-Term (Option ℤ) number_step

-- the sign behind the first term: a sum behind any one, a multiple behind a number
abbrev pub Sign : Option ℤ → Operation → List ℕ → Type 0
Sign number Plus text = text ≡ codes "+"
Sign (Some k) (Times j) text = (j ≡ k) × (text ≡ codes "*")
Sign None (Times j) text = ⊥

-- the operation whose sign stands at this place
abbrev pub operation_at : ℕ → ℤ → Operation
operation_at zero k = Plus
operation_at (suc n) k = Times k

-- the term that a sign and the terms around it make
abbrev pub operated : Term → Operation → Term → Term
operated a Plus b = term.Sum a b
operated a (Times k) b = term.Scale k b

-- what is made of the parts in brackets
abbrev pub bracketed : Term × (Operation × (Term × Unit {0})) → Term
bracketed p = operated p.0 (p.1.0) (p.1.1.0)

-- the second term and the closing bracket
abbrev pub Second : (Term → List ℕ → Type 0) → Term × Unit {0} → List ℕ → Type 0
Second L = Front (codes " ") (Cat L (λ b. Word (codes ")")))

-- what stands behind the first term
abbrev pub BehindFirst : (Term → List ℕ → Type 0) → Term → Operation × (Term × Unit {0}) → List ℕ → Type 0
BehindFirst L a = Front (codes " ") (Cat (Sign (number_of a)) (λ sign. Second L))

-- the parts in brackets, where the terms' texts are those of the language
abbrev pub InBrackets : (Term → List ℕ → Type 0) → Term × (Operation × (Term × Unit {0})) → List ℕ → Type 0
InBrackets L = Front (codes "(") (Cat L (BehindFirst L))

-- ---- symbols with arguments
-- more arguments behind the first, each behind a comma, up to the closing bracket
abbrev pub MoreArguments : (Term → List ℕ → Type 0) → List Term → List ℕ → Type 0
MoreArguments L = Run (λ (u : Unit {0}). Front (codes ",") L) (λ u a. u) (codes ")") tt

-- one argument or more, in brackets
abbrev pub ListedArguments : (Term → List ℕ → Type 0) → List Term → List ℕ → Type 0
ListedArguments L = Image (λ (p : Term × List Term). p.0 ∷ p.1) (Front (codes "(") (Cat L (λ first. MoreArguments L)))

-- arguments in brackets, or none
abbrev pub Arguments : (Term → List ℕ → Type 0) → List Term → List ℕ → Type 0
Arguments L [] text = text ≡ []
Arguments L (x ∷ xs) text = ListedArguments L (x ∷ xs) text

-- ---- terms
-- a term of this kind, where the texts of its parts are those of the language
abbrev pub TermParts : (Term → List ℕ → Type 0) → TermKind → Term → List ℕ → Type 0
TermParts L VariableTerm = Image term.Var SpellsVariable
TermParts L NumberTerm = Image term.Num (Signed (Signed128 0))
TermParts L Truth = Image (λ (u : Unit {0}). term.True) (Word (codes "true"))
TermParts L Bracket = Image bracketed (InBrackets L)
TermParts L Symbol = Image (λ (p : ℕ × List Term). term.App p.0 p.1) (Front (codes "s") (Cat (Number Word32) (λ f. Arguments L)))

-- a term, where the texts of its parts are those of the language
abbrev pub Layer : (Term → List ℕ → Type 0) → Term → List ℕ → Type 0
Layer L = OneKind (TermParts L)

-- terms of at most so many levels
abbrev pub TermWithin : ℕ → Term → List ℕ → Type 0
TermWithin zero = λ t text. ⊥
TermWithin (suc levels) = Layer (TermWithin levels)

-- a term of any number of levels
pub record SpellsTerm (t : Term) (text : List ℕ) : Type 0 where
  pub levels : ℕ
  pub within : TermWithin levels t text

-- arguments were put behind the text, but for the closing bracket
abbrev pub Opened : List Term → List ℕ → List ℕ → Type 0
Opened [] old new = new ≡ old
Opened (x ∷ xs) old new = (whole : List ℕ) → whole ≡ new ++ codes ")" → Adds (ListedArguments SpellsTerm) (x ∷ xs) old whole

-- ---- what the first byte tells
-- a letter of variables
abbrev pub is_letter : ℕ → Bool
is_letter b = b == 65 || (b == 68 || (b == 73 || b == 78))

-- a digit or a minus
abbrev pub is_digit_or_minus : ℕ → Bool
is_digit_or_minus b = is_digit b || b == 45

-- the kind that the first byte tells
abbrev pub term_kind_of : ℕ → TermKind
term_kind_of b = if b == 116 then Truth else (if b == 40 then Bracket else (if is_digit_or_minus b then NumberTerm else (if is_letter b then VariableTerm else Symbol)))
