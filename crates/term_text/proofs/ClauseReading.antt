-- How literals and clauses are read.
use Rattle.std.proofs.Common.{◌≡◌, ℕ, ℤ, pos, negsuc, Bool, true, false, List, [], ◌∷◌, ◌++◌, refl, sym, ap, subst, ◌∙◌, arith}
use Rattle.std.specs.Prelude.{codes, ◌==◌}
use Rattle.std.proofs.lemmas.Bool.Decides.{nat_tests}
use Rattle.term_base.specs.declared.terms.Term.{Term}
use Rattle.term_base.specs.declared.variables.Variable.{Variable}
use Rattle.term_base.specs.declared.clauses.Literal.{Literal}
use Rattle.term_base.specs.declared.clauses.Clause.{Clause}
use Rattle.text_pieces.specs.Decimals.{is_digit, signed_decimal}
use Rattle.text_pieces.specs.Languages.{Cat, Free, ReadsTo, FailsTo}
use Rattle.text_pieces.specs.declared.bad_texts.Unread.{Unread}
use Rattle.text_pieces.proofs.Digits.{digit_below}
use Rattle.text_pieces.proofs.Reaching.{decimal_head}
use Rattle.text_pieces.specs.Failing.{UnreadTo}
use Rattle.text_pieces.specs.Unambiguous.{OneFrontTo}
use Rattle.text_pieces.specs.Ending.{is_digit_or_bracket, no_byte}
use Rattle.text_pieces.specs.Fronts.{Front, NoFront}
use Rattle.text_pieces.specs.Kinds.{kind_at}
use Rattle.text_pieces.proofs.Ends.{free_none, one_front-image}
use Rattle.text_pieces.proofs.Lifts.{Lift, lift-behind, unread_on, Sure, Next, sure-cat, sure-image}
use Rattle.text_pieces.proofs.WordReading.{sure-word, sure-front, next-front}
use Rattle.text_pieces.proofs.Kinded.{Told, kinded, sure-kinds}
use Rattle.text_pieces.proofs.Running.{Runs, next-run, run_more, run_fails, run_end, run_no_end, one_more, there, not_there}
use Rattle.term_text.specs.declared.kinds.TermKind.{TermKind}
use Rattle.term_text.specs.declared.kinds.TermKind.TheVariants.{Variable as VariableTerm, Number as NumberTerm, Truth, Bracket, Symbol}
use Rattle.term_text.specs.declared.kinds.VariableKind.{VariableKind}
use Rattle.term_text.specs.declared.kinds.VariableKind.TheVariants.{Abstraction, Individual, Int, Declared}
use Rattle.term_text.specs.Variables.{VariableParts}
use Rattle.term_text.specs.Terms.{SpellsTerm, TermParts}
use Rattle.term_text.specs.Clauses.{RelationWord, SpellsLiteral, literal_of, MoreLiterals, ClauseParts, SpellsClauseLine, is_dollar}
use Rattle.term_text.proofs.TermLevels.{to_layer}
use Rattle.term_text.proofs.TermFronts.{sure-term}
use Rattle.term_text.proofs.Words.{sure-relation}

abbrev m : ℕ → Bool
m = is_digit_or_bracket

-- ---- literals
pub sure-related : Sure m (Cat RelationWord (λ r. Front (codes " ") SpellsTerm))
sure-related = sure-cat sure-relation (λ r. next-front 32 [] refl sure-term)

pub sure-literal : Sure m SpellsLiteral
sure-literal = sure-image literal_of (sure-cat sure-term (λ s. next-front 32 [] refl sure-related))

-- ---- more literals
pub runs-literals : Runs m (λ (u : Unit {0}). Front (codes " | ") SpellsLiteral) (λ b. b == 32) (codes "\n")
runs-literals = record {
  one = λ u. (sure-front (codes " | ") sure-literal).one;
  begins = λ u a t s. record { head = 32; tail = s.behind; is = s.joined; tells = refl };
  ends = record { head = 10; tail = []; is = refl; tells = refl };
  clear = λ u a t x s. subst (λ z. Free m (z ++ x)) (sym s.joined) refl;
  clear_end = λ x. refl;
}

pub next-more_literals : Next m no_byte MoreLiterals
next-more_literals = next-run m (λ (u : Unit {0}). Front (codes " | ") SpellsLiteral) (λ u l. u) (λ b. b == 32) (codes "\n") runs-literals no_byte tt

abbrev On : List ℕ → List ℕ → List Literal → Type 0
On text rest all = Lift no_byte (ClauseParts false) text MoreLiterals rest (λ ls. record { literals = all ++ ls })

pub literal_read : {text rest behind more : List ℕ} {l : Literal} (all : List Literal) → On text rest all → rest ≡ 32 ∷ behind → ReadsTo m (Front (codes "| ") SpellsLiteral) behind l more → On text more (all ++ l ∷ [])
literal_read {rest = rest} {behind = behind} {l = l} all w e r =
    one_more (λ ls. record { literals = ls }) all l (run_more m (λ (u : Unit {0}). Front (codes " | ") SpellsLiteral) (λ u a. u) (λ b. b == 32) (codes "\n") runs-literals w (there 32 rest behind e refl)
    ((lift-behind m 32 (Front (codes "| ") SpellsLiteral) rest behind e).reads l _ r))

pub literal_unread : {text rest behind : List ℕ} (all : List Literal) → On text rest all → rest ≡ 32 ∷ behind → (e : Unread) → UnreadTo m (Front (codes "| ") SpellsLiteral) behind e → UnreadTo no_byte (ClauseParts false) text e
literal_unread {text = text} {rest = rest} {behind = behind} all w e u h =
    unread_on m no_byte (ClauseParts false) text (Front (codes "| ") SpellsLiteral) behind
    (λ left f. run_fails m (λ (u : Unit {0}). Front (codes " | ") SpellsLiteral) (λ u a. u) (λ b. b == 32) (codes "\n") runs-literals w (there 32 rest behind e refl) ((lift-behind m 32 (Front (codes "| ") SpellsLiteral) rest behind e).fails left f)) u h

pub literals_end : {text rest last : List ℕ} (all : List Literal) → On text rest all → ((more : List ℕ) → rest ≡ 32 ∷ more → ⊥) → rest ≡ codes "\n" ++ last → ReadsTo no_byte (ClauseParts false) text (record { literals = all ++ [] }) last
literals_end {rest = rest} {last = last} all w n e =
    run_end m (λ (u : Unit {0}). Front (codes " | ") SpellsLiteral) (λ u a. u) (λ b. b == 32) (codes "\n") runs-literals tt w (not_there 32 rest n) e (free_none last)

pub literals_open : {text rest : List ℕ} {left : ℕ} (all : List Literal) → On text rest all → ((more : List ℕ) → rest ≡ 32 ∷ more → ⊥) → NoFront (codes "\n") rest left → FailsTo no_byte (ClauseParts false) text left
literals_open {rest = rest} all w n f = run_no_end m (λ (u : Unit {0}). Front (codes " | ") SpellsLiteral) (λ u a. u) (λ b. b == 32) (codes "\n") runs-literals tt w (not_there 32 rest n) f

-- ---- no term begins as the empty clause does
digit_no_dollar : (b : ℕ) → is_digit b ≡ true → is_dollar b ≡ false
digit_no_dollar b h = let l = digit_below b h in grind (arith, nat_tests, l.0, l.1)

letter_no_dollar : (k : VariableKind) (v : Variable) (t : List ℕ) → VariableParts k v t → Told is_dollar false t
letter_no_dollar Abstraction v t s = record { head = 65; tail = s.spelled.behind; is = s.spelled.joined; tells = refl }
letter_no_dollar Individual v t s = record { head = 73; tail = s.spelled.behind; is = s.spelled.joined; tells = refl }
letter_no_dollar Int v t s = record { head = 78; tail = s.spelled.behind; is = s.spelled.joined; tells = refl }
letter_no_dollar Declared v t s = record { head = 68; tail = s.spelled.behind; is = s.spelled.joined; tells = refl }

number_no_dollar : (z : ℤ) (t : List ℕ) → t ≡ signed_decimal z → Told is_dollar false t
number_no_dollar (pos n) t e = let d = decimal_head n in record { head = d.head; tail = d.tail; is = e ∙ d.is; tells = digit_no_dollar d.head d.digit }
number_no_dollar (negsuc n) t e = record { head = 45; tail = _; is = e; tells = refl }

parts_no_dollar : (k : TermKind) (a : Term) (t : List ℕ) → TermParts SpellsTerm k a t → Told is_dollar false t
parts_no_dollar VariableTerm a t s = let v = s.spelled in letter_no_dollar v.kind s.from t v.spelled
parts_no_dollar NumberTerm a t s = number_no_dollar s.from t s.spelled.digits
parts_no_dollar Truth a t s = record { head = 116; tail = 114 ∷ 117 ∷ 101 ∷ []; is = s.spelled; tells = refl }
parts_no_dollar Bracket a t s = record { head = 40; tail = s.spelled.behind; is = s.spelled.joined; tells = refl }
parts_no_dollar Symbol a t s = record { head = 115; tail = s.spelled.behind; is = s.spelled.joined; tells = refl }

in_front_of : {u t : List ℕ} (v : List ℕ) → Told is_dollar false u → t ≡ u ++ v → Told is_dollar false t
in_front_of v n e = record { head = n.head; tail = n.tail ++ v; is = e ∙ ap (λ z. z ++ v) n.is; tells = n.tells }

term_no_dollar : (a : Term) (t : List ℕ) → SpellsTerm a t → Told is_dollar false t
term_no_dollar a t s = let l = to_layer a t s in parts_no_dollar l.kind a t l.spelled

literal_no_dollar : (a : Literal) (t : List ℕ) → SpellsLiteral a t → Told is_dollar false t
literal_no_dollar a t s = let c = s.spelled in in_front_of c.second (term_no_dollar (s.from.0) c.first c.first_spelled) c.joined

told-clause : (k : Bool) (c : Clause) (t : List ℕ) → ClauseParts k c t → Told is_dollar k t
told-clause true c t s = record { head = 36; tail = 102 ∷ 97 ∷ 108 ∷ 115 ∷ 101 ∷ 10 ∷ []; is = s.spelled; tells = refl }
told-clause false c t s = let p = s.spelled in in_front_of p.second (literal_no_dollar (s.from.0) p.first p.first_spelled) p.joined

-- ---- clauses
pub clause_at : (text : List ℕ) (k : Bool) → kind_at is_dollar false text ≡ k → Lift no_byte SpellsClauseLine text (ClauseParts k) text (λ (c : Clause). c)
clause_at text k e = subst (λ z. Lift no_byte SpellsClauseLine text (ClauseParts z) text (λ (c : Clause). c)) e (kinded ClauseParts is_dollar false told-clause no_byte text)

one_front-clause_parts : (k : Bool) → OneFrontTo no_byte (ClauseParts k)
one_front-clause_parts true = one_front-image no_byte _ _ (sure-word no_byte (codes "$false\n")).one
one_front-clause_parts false = one_front-image no_byte _ _ (sure-cat sure-literal (λ l. next-more_literals)).one

pub sure-clause_line : Sure no_byte SpellsClauseLine
sure-clause_line = sure-kinds ClauseParts is_dollar false told-clause no_byte one_front-clause_parts true (record { value = record { literals = [] }; text = codes "$false\n"; spelled = record { from = tt; is = refl; spelled = refl } })
