-- What the first byte of a term tells.
use Rattle.std.proofs.Common.{◌≡◌, ℕ, ℤ, pos, negsuc, true, List, [], ◌∷◌, refl, ◌∙◌, arith}
use Rattle.std.proofs.lemmas.Bool.Decides.{nat_tests}
use Rattle.term_base.specs.declared.terms.Term.{Term}
use Rattle.text_pieces.specs.Decimals.{is_digit, signed_decimal}
use Rattle.text_pieces.proofs.Digits.{digit_below}
use Rattle.text_pieces.proofs.Reaching.{decimal_head}
use Rattle.text_pieces.proofs.Kinded.{Told}
use Rattle.term_text.specs.declared.kinds.TermKind.{TermKind}
use Rattle.term_text.specs.declared.kinds.TermKind.TheVariants.{Variable as VariableTerm, Number as NumberTerm, Truth, Bracket, Symbol}
use Rattle.term_text.specs.declared.kinds.VariableKind.{VariableKind}
use Rattle.term_text.specs.declared.kinds.VariableKind.TheVariants.{Abstraction, Individual, Int, Declared}
use Rattle.term_base.specs.declared.variables.Variable.{Variable}
use Rattle.term_text.specs.Variables.{VariableParts}
use Rattle.term_text.specs.Terms.{TermParts, term_kind_of}

digit_tells : (b : ℕ) → is_digit b ≡ true → term_kind_of b ≡ NumberTerm
digit_tells b h = let l = digit_below b h in grind (arith, nat_tests, l.0, l.1, h)

told-letter : (k : VariableKind) (v : Variable) (t : List ℕ) → VariableParts k v t → Told term_kind_of VariableTerm t
told-letter Abstraction v t s = record { head = 65; tail = s.spelled.behind; is = s.spelled.joined; tells = refl }
told-letter Individual v t s = record { head = 73; tail = s.spelled.behind; is = s.spelled.joined; tells = refl }
told-letter Int v t s = record { head = 78; tail = s.spelled.behind; is = s.spelled.joined; tells = refl }
told-letter Declared v t s = record { head = 68; tail = s.spelled.behind; is = s.spelled.joined; tells = refl }

told-number : (z : ℤ) (t : List ℕ) → t ≡ signed_decimal z → Told term_kind_of NumberTerm t
told-number (pos n) t e = let d = decimal_head n in record { head = d.head; tail = d.tail; is = e ∙ d.is; tells = digit_tells d.head d.digit }
told-number (negsuc n) t e = record { head = 45; tail = _; is = e; tells = refl }

pub told-term : (L : Term → List ℕ → Type 0) (k : TermKind) (a : Term) (t : List ℕ) → TermParts L k a t → Told term_kind_of k t
told-term L VariableTerm a t s = let v = s.spelled in told-letter v.kind s.from t v.spelled
told-term L NumberTerm a t s = told-number s.from t s.spelled.digits
told-term L Truth a t s = record { head = 116; tail = 114 ∷ 117 ∷ 101 ∷ []; is = s.spelled; tells = refl }
told-term L Bracket a t s = record { head = 40; tail = s.spelled.behind; is = s.spelled.joined; tells = refl }
told-term L Symbol a t s = record { head = 115; tail = s.spelled.behind; is = s.spelled.joined; tells = refl }
