-- Terms are told apart, up to a byte that is neither a digit nor an opening bracket.
use Rattle.std.proofs.Common.{◌≡◌, ℕ, zero, suc, ℤ, Bool, true, false, List, [], ◌∷◌, ◌++◌, Option, Some, None, refl, sym, ap, subst, ◌∙◌, arith}
use Rattle.std.specs.Prelude.{codes, ◌==◌}
use Rattle.term_base.specs.declared.terms.Term.{Term}
use Rattle.term_base.specs.declared.terms.Term.TheVariants as term
use Rattle.text_pieces.specs.Decimals.{is_digit}
use Rattle.text_pieces.specs.Languages.{Cat, Free}
use Rattle.text_pieces.specs.Numbers.{Number, Word32, Signed, Signed128}
use Rattle.text_pieces.proofs.Negatives.{one_front-signed}
use Rattle.text_pieces.specs.Unambiguous.{OneFrontTo}
use Rattle.text_pieces.specs.Ending.{is_digit_or_bracket, no_byte}
use Rattle.text_pieces.specs.Fronts.{Front, Word}
use Rattle.text_pieces.proofs.Ends.{Joins, within_digit, one_within, one_front-cat, one_front-image}
use Rattle.text_pieces.proofs.Lifts.{Sure, Next, sure-cat, sure-image}
use Rattle.text_pieces.proofs.WordReading.{one_front-front, sure-word, joins-front, next-word, sure-front, next-front}
use Rattle.text_pieces.proofs.Kinded.{one_front-kinds}
use Rattle.text_pieces.proofs.Running.{Runs, next-run}
use Rattle.text_pieces.proofs.Limits.{above, above_swap, raised}
use Rattle.term_text.specs.declared.kinds.TermKind.{TermKind}
use Rattle.term_text.specs.declared.kinds.TermKind.TheVariants.{Variable as VariableTerm, Number as NumberTerm, Truth, Bracket, Symbol}
use Rattle.term_text.specs.declared.kinds.Operation.TheVariants.{Plus, Times}
use Rattle.term_text.specs.Variables.{SpellsVariable}
use Rattle.term_text.specs.Terms.{Sign, number_of, Second, BehindFirst, MoreArguments, ListedArguments, Arguments, TermParts, Layer, TermWithin, SpellsTerm, term_kind_of}
use Rattle.term_text.proofs.VariableFronts.{sure-variable, sure-word32}
use Rattle.term_text.proofs.TermKinds.{told-term}
use Rattle.term_text.proofs.TermLevels.{limit-term, from_layer}

abbrev m : ℕ → Bool
m = is_digit_or_bracket

differ : true ≡ false → ⊥
differ h = cc

-- ---- signs
byte_same : {a b : ℕ} {x y : List ℕ} → ◌≡◌ {A = List ℕ} (a ∷ x) (b ∷ y) → (a ≡ b) × (x ≡ y)
byte_same h = (cc, cc)

pub one_front-sign : (q : ℕ → Bool) (n : Option ℤ) → OneFrontTo q (Sign n)
one_front-sign q n Plus Plus t u x y s r h d e = record { value = refl; text = s ∙ sym r; rest = (byte_same (sym (ap (λ z. z ++ x) s) ∙ h ∙ ap (λ z. z ++ y) r)).1 }
one_front-sign q (Some k) Plus (Times j) t u x y s r h d e = let w = (byte_same (sym (ap (λ z. z ++ x) s) ∙ h ∙ ap (λ z. z ++ y) r.1)).0 in absurd (omega (arith, w))
one_front-sign q (Some k) (Times j) Plus t u x y s r h d e = let w = (byte_same (sym (ap (λ z. z ++ x) s.1) ∙ h ∙ ap (λ z. z ++ y) r)).0 in absurd (omega (arith, w))
one_front-sign q (Some k) (Times i) (Times j) t u x y s r h d e =
    record { value = ap Times (s.0 ∙ sym r.0); text = s.1 ∙ sym r.1; rest = (byte_same (sym (ap (λ z. z ++ x) s.1) ∙ h ∙ ap (λ z. z ++ y) r.1)).1 }
one_front-sign q None Plus (Times j) t u x y s r h d e = absurd r
one_front-sign q None (Times j) b t u x y s r h d e = absurd s

pub sure-sign : (q : ℕ → Bool) (n : Option ℤ) → Sure q (Sign n)
sure-sign q n = record { one = one_front-sign q n; some = record { value = Plus; text = codes "+"; spelled = refl } }

pub joins-sign : (p q : ℕ → Bool) → p 43 ≡ false → p 42 ≡ false → (n : Option ℤ) → Joins p q (Sign n)
joins-sign p q a b n Plus t x s d = subst (λ z. Free p (z ++ x)) (sym s) a
joins-sign p q a b (Some k) (Times j) t x s d = subst (λ z. Free p (z ++ x)) (sym s.1) b
joins-sign p q a b None (Times j) t x s d = absurd s

-- ---- arguments
module _ (L : Term → List ℕ → Type 0) (one : OneFrontTo m L) where
  pub runs-arguments : Runs m (λ (u : Unit {0}). Front (codes ",") L) (λ b. b == 44) (codes ")")
  runs-arguments = record {
    one = λ u. one_front-front m (codes ",") L one;
    begins = λ u a t s. record { head = 44; tail = s.behind; is = s.joined; tells = refl };
    ends = record { head = 41; tail = []; is = refl; tells = refl };
    clear = λ u a t x s. subst (λ z. Free m (z ++ x)) (sym s.joined) refl;
    clear_end = λ x. refl;
  }

  pub next-more_arguments : (q : ℕ → Bool) → Next m q (MoreArguments L)
  next-more_arguments q = next-run m (λ (u : Unit {0}). Front (codes ",") L) (λ u a. u) (λ b. b == 44) (codes ")") runs-arguments q tt

  pub one_front-listed : (q : ℕ → Bool) → OneFrontTo q (ListedArguments L)
  one_front-listed q =
      one_front-image q _ _ (one_front-front q (codes "(") (Cat L (λ first. MoreArguments L))
      (one_front-cat m q L (λ first. MoreArguments L) one (λ first. (next-more_arguments q).sure.one) (λ first. (next-more_arguments q).joins)))

  -- what is in brackets begins with one
  bracketed_not : (x : List ℕ) (a : List Term) (u y : List ℕ) → ListedArguments L a u → x ≡ u ++ y → Free m x → ⊥
  bracketed_not x a u y s e d = differ (subst (Free m) (e ∙ ap (λ z. z ++ y) s.spelled.joined) d)

  pub one_front-arguments : OneFrontTo m (Arguments L)
  one_front-arguments [] [] t u x y s r h d e = record { value = refl; text = s ∙ sym r; rest = sym (ap (λ z. z ++ x) s) ∙ h ∙ ap (λ z. z ++ y) r }
  one_front-arguments [] (b ∷ bs) t u x y s r h d e = absurd (bracketed_not x (b ∷ bs) u y r (sym (ap (λ z. z ++ x) s) ∙ h) d)
  one_front-arguments (a ∷ xs) [] t u x y s r h d e = absurd (bracketed_not y (a ∷ xs) t x s (sym (ap (λ z. z ++ y) r) ∙ sym h) e)
  one_front-arguments (a ∷ xs) (b ∷ bs) t u x y s r h d e = one_front-listed m (a ∷ xs) (b ∷ bs) t u x y s r h d e

  pub joins-arguments : Joins is_digit m (Arguments L)
  joins-arguments [] t x s d = subst (λ z. Free is_digit (z ++ x)) (sym s) (within_digit x d)
  joins-arguments (a ∷ xs) t x s d = subst (λ z. Free is_digit (z ++ x)) (sym s.spelled.joined) refl

  -- ---- in brackets
  pub one_front-second : (q : ℕ → Bool) → OneFrontTo q (Second L)
  one_front-second q = one_front-front q (codes " ") _ (one_front-cat m q L (λ b. Word (codes ")")) one (λ b. (sure-word q (codes ")")).one) (λ b. (next-word {p = m} {q = q} 41 [] refl).joins))

  pub one_front-behind_first : (q : ℕ → Bool) (a : Term) → OneFrontTo q (BehindFirst L a)
  one_front-behind_first q a =
      one_front-front q (codes " ") _ (one_front-cat is_digit q (Sign (number_of a)) (λ sign. Second L) (one_front-sign is_digit (number_of a)) (λ sign. one_front-second q) (λ sign. joins-front is_digit q 32 [] _ refl))

  -- ---- terms of one level more
  one_front-parts : (k : TermKind) → OneFrontTo m (TermParts L k)
  one_front-parts VariableTerm = one_front-image m _ _ (one_within is_digit m SpellsVariable within_digit sure-variable.one)
  one_front-parts NumberTerm = one_front-image m _ _ (one_within is_digit m (Signed (Signed128 0)) within_digit (one_front-signed 0))
  one_front-parts Truth = one_front-image m _ _ (sure-word m (codes "true")).one
  one_front-parts Bracket = one_front-image m _ _ (one_front-front m (codes "(") _ (one_front-cat m m L (BehindFirst L) one (one_front-behind_first m) (λ a. joins-front m m 32 [] _ refl)))
  one_front-parts Symbol =
      one_front-image m _ _ (one_front-front m (codes "s") _
      (one_front-cat is_digit m (Number Word32) (λ f. Arguments L) sure-word32.one (λ f. one_front-arguments) (λ f. joins-arguments)))

  pub one_front-layer : OneFrontTo m (Layer L)
  one_front-layer = one_front-kinds (TermParts L) term_kind_of Symbol (told-term L) m one_front-parts

one_front-within : (k : ℕ) → OneFrontTo m (TermWithin k)
one_front-within zero a b t u x y s r h d e = absurd s
one_front-within (suc k) a b t u x y s r h d e = one_front-layer (TermWithin k) (one_front-within k) a b t u x y s r h d e

one_front-term : OneFrontTo m SpellsTerm
one_front-term a b t u x y s r h d e =
    let j = s.levels in
    let k = r.levels in
    one_front-within (above k j) a b t u x y (raised TermWithin SpellsTerm limit-term k j a t s.within)
    (subst (λ n. TermWithin n b u) (above_swap j k) (raised TermWithin SpellsTerm limit-term j k b u r.within)) h d e

pub sure-term : Sure m SpellsTerm
sure-term = record {
  one = one_front-term;
  some = record { value = term.True; text = codes "true"; spelled = from_layer term.True (codes "true") (record { kind = Truth; spelled = record { from = tt; is = refl; spelled = refl } }) };
}

-- ---- terms in parts
pub next-word_bracket : (q : ℕ → Bool) → Next m q (Word (codes ")"))
next-word_bracket q = next-word 41 [] refl

pub sure-closed : (q : ℕ → Bool) → Sure q (Cat SpellsTerm (λ b. Word (codes ")")))
sure-closed q = sure-cat sure-term (λ b. next-word_bracket q)

pub next-second : (q : ℕ → Bool) → Next is_digit q (Second SpellsTerm)
next-second q = next-front 32 [] refl (sure-closed q)

pub sure-signed_second : (q : ℕ → Bool) (a : Term) → Sure q (Cat (Sign (number_of a)) (λ sign. Second SpellsTerm))
sure-signed_second q a = sure-cat (sure-sign is_digit (number_of a)) (λ sign. next-second q)

pub next-behind_first : (q : ℕ → Bool) (a : Term) → Next m q (BehindFirst SpellsTerm a)
next-behind_first q a = next-front 32 [] refl (sure-signed_second q a)

pub sure-in_brackets : (q : ℕ → Bool) → Sure q (Cat SpellsTerm (BehindFirst SpellsTerm))
sure-in_brackets q = sure-cat sure-term (next-behind_first q)

pub one_front-bracket : OneFrontTo no_byte (TermParts SpellsTerm Bracket)
one_front-bracket = one_front-image no_byte _ _ (one_front-front no_byte (codes "(") _ (sure-in_brackets no_byte).one)

pub runs-term : Runs m (λ (u : Unit {0}). Front (codes ",") SpellsTerm) (λ b. b == 44) (codes ")")
runs-term = runs-arguments SpellsTerm one_front-term

pub next-listed : Next m no_byte (MoreArguments SpellsTerm)
next-listed = next-more_arguments SpellsTerm one_front-term no_byte

pub sure-listed_parts : Sure no_byte (Cat SpellsTerm (λ first. MoreArguments SpellsTerm))
sure-listed_parts = sure-cat sure-term (λ first. next-listed)

pub sure-listed : Sure no_byte (ListedArguments SpellsTerm)
sure-listed = sure-image _ (sure-front (codes "(") sure-listed_parts)

pub next-arguments : Next is_digit m (Arguments SpellsTerm)
next-arguments = record {
  sure = record { one = one_front-arguments SpellsTerm one_front-term; some = record { value = []; text = []; spelled = refl } };
  joins = joins-arguments SpellsTerm one_front-term;
}

pub sure-symbol : Sure m (Cat (Number Word32) (λ f. Arguments SpellsTerm))
sure-symbol = sure-cat sure-word32 (λ f. next-arguments)
