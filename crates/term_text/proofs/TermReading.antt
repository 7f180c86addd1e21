-- How terms are read.
use Rattle.std.proofs.Common.{◌≡◌, ℕ, ◌<◌, ◌≤◌, Bool, true, false, List, [], ◌∷◌, ◌++◌, length, length-append, refl, sym, ap, subst, ◌∙◌, arith}
use Rattle.std.specs.Prelude.{codes, ◌==◌, ◌||◌}
use Rattle.std.proofs.lemmas.Bool.{eqb-true}
use Rattle.term_base.specs.declared.terms.Term.{Term}
use Rattle.text_pieces.specs.Decimals.{is_digit}
use Rattle.text_pieces.specs.Languages.{NoDigit, GoesOn, StopsAt, Free, ReadsTo, FailsTo}
use Rattle.text_pieces.specs.declared.bad_texts.Unread.{Unread}
use Rattle.text_pieces.specs.Failing.{UnreadTo}
use Rattle.text_pieces.specs.Ending.{is_digit_or_bracket, no_byte}
use Rattle.text_pieces.specs.Fronts.{Front, NoFront}
use Rattle.text_pieces.specs.Kinds.{kind_at}
use Rattle.text_pieces.proofs.Ends.{free_none}
use Rattle.text_pieces.proofs.Lifts.{Lift, lift-then, lift-behind, unread_on}
use Rattle.text_pieces.proofs.Kinded.{kinded}
use Rattle.text_pieces.proofs.Running.{run_more, run_fails, run_end, run_no_end, one_more, there, not_there}
use Rattle.term_text.specs.declared.kinds.TermKind.{TermKind}
use Rattle.term_text.specs.declared.kinds.TermKind.TheVariants.{Symbol}
use Rattle.term_text.specs.Terms.{SpellsTerm, TermParts, Arguments, ListedArguments, MoreArguments, term_kind_of}
use Rattle.term_text.proofs.TermKinds.{told-term}
use Rattle.term_text.proofs.TermLevels.{term_layer}
use Rattle.term_text.proofs.TermFronts.{runs-term}

abbrev m : ℕ → Bool
m = is_digit_or_bracket

differ : true ≡ false → ⊥
differ h = cc

-- ---- by kinds
pub term_at : (text : List ℕ) (k : TermKind) → kind_at term_kind_of Symbol text ≡ k → Lift m SpellsTerm text (TermParts SpellsTerm k) text (λ (a : Term). a)
term_at text k e = subst (λ z. Lift m SpellsTerm text (TermParts SpellsTerm z) text (λ (a : Term). a)) e (lift-then (term_layer m text) (kinded (TermParts SpellsTerm) term_kind_of Symbol (told-term SpellsTerm) m text))

-- ---- arguments
or_none : (a b : Bool) → a ≡ false → b ≡ false → a || b ≡ false
or_none a b h k = ap (λ z. z || b) h ∙ k

free_both : (text : List ℕ) → NoDigit text → kind_at (λ b. b == 40) false text ≡ false → Free m text
free_both [] d h = tt
free_both (b ∷ bs) d h = or_none (is_digit b) (b == 40) d h

pub no_arguments : (text : List ℕ) → NoDigit text → kind_at (λ b. b == 40) false text ≡ false → ReadsTo m (Arguments SpellsTerm) text [] text
no_arguments text d h = record { text = []; spelled = refl; whole = refl; ends = free_both text d h }

open_bracket : (text : List ℕ) → kind_at (λ b. b == 40) false text ≡ true → Free m text → ⊥
open_bracket [] h d = differ (sym h)
open_bracket (b ∷ bs) h d = differ (sym (subst (λ c. m c ≡ true) (sym (eqb-true b 40 h)) refl) ∙ d)

listed_is : (xs : List Term) (t : List ℕ) → ListedArguments SpellsTerm xs t → Arguments SpellsTerm xs t
listed_is [] t s = absurd (none_made s.is)
  where
    none_made : {a : Term} {xs : List Term} → ◌≡◌ {A = List Term} [] (a ∷ xs) → ⊥
    none_made h = cc
listed_is (x ∷ xs) t s = s

no_text : (front tail : List ℕ) (b : ℕ) → ◌≡◌ {A = List ℕ} [] ((front ++ b ∷ []) ++ tail) → ⊥
no_text [] tail b h = cc
no_text (c ∷ front) tail b h = cc

pub as_arguments : (text : List ℕ) → kind_at (λ b. b == 40) false text ≡ true → Lift m (Arguments SpellsTerm) text (ListedArguments SpellsTerm) text (λ xs. xs)
as_arguments text h = record {
  fails = λ left f. record {
    front = f.front;
    rest = f.rest;
    whole = f.whole;
    left_is = f.left_is;
    goes_on = let g = f.goes_on in record { value = g.value; text = g.text; tail = g.tail; spelled = listed_is g.value g.text g.spelled; begins = g.begins };
    stops = stop f.front f.rest f.stops;
    none = λ xs rest r. none f xs r.text rest r.spelled r.whole r.ends;
  };
  reads = λ xs rest r. record { text = r.text; spelled = listed_is xs r.text r.spelled; whole = r.whole; ends = r.ends };
}
  where
    goes : (front : List ℕ) (b : ℕ) (xs : List Term) (t tail : List ℕ) → Arguments SpellsTerm xs t → t ≡ (front ++ b ∷ []) ++ tail → (GoesOn (ListedArguments SpellsTerm) (front ++ b ∷ []) → ⊥) → ⊥
    goes front b [] t tail s e k = no_text front tail b (sym s ∙ e)
    goes front b (x ∷ xs) t tail s e k = k (record { value = x ∷ xs; text = t; tail = tail; spelled = s; begins = e })

    stop : (front rest : List ℕ) → StopsAt (ListedArguments SpellsTerm) front rest → StopsAt (Arguments SpellsTerm) front rest
    stop front [] k = tt
    stop front (b ∷ bs) k = λ g. goes front b g.value g.text g.tail g.spelled g.begins k

    none : {left : ℕ} → FailsTo m (ListedArguments SpellsTerm) text left → (xs : List Term) (t rest : List ℕ) → Arguments SpellsTerm xs t → text ≡ t ++ rest → Free m rest → ⊥
    none f [] t rest s w d = open_bracket text h (subst (Free m) (sym (w ∙ ap (λ z. z ++ rest) s)) d)
    none f (x ∷ xs) t rest s w d = f.none (x ∷ xs) rest (record { text = t; spelled = s; whole = w; ends = d })

-- ---- the loop
abbrev On : List ℕ → List ℕ → List Term → Type 0
On text rest all = Lift no_byte (ListedArguments SpellsTerm) text (MoreArguments SpellsTerm) rest (λ xs. all ++ xs)

pub argument_read : {text rest behind more : List ℕ} {a : Term} (all : List Term) → On text rest all → rest ≡ 44 ∷ behind → ReadsTo m SpellsTerm behind a more → On text more (all ++ a ∷ [])
argument_read {rest = rest} {behind = behind} {a = a} all w e r =
    one_more (λ xs. xs) all a (run_more m (λ (u : Unit {0}). Front (codes ",") SpellsTerm) (λ u a. u) (λ b. b == 44) (codes ")") runs-term w (there 44 rest behind e refl)
    ((lift-behind m 44 SpellsTerm rest behind e).reads a _ r))

pub argument_unread : {text rest behind : List ℕ} (all : List Term) → On text rest all → rest ≡ 44 ∷ behind → (e : Unread) → UnreadTo m SpellsTerm behind e → UnreadTo no_byte (ListedArguments SpellsTerm) text e
argument_unread {text = text} {rest = rest} {behind = behind} all w e u h =
    unread_on m no_byte (ListedArguments SpellsTerm) text SpellsTerm behind
    (λ left f. run_fails m (λ (u : Unit {0}). Front (codes ",") SpellsTerm) (λ u a. u) (λ b. b == 44) (codes ")") runs-term w (there 44 rest behind e refl) ((lift-behind m 44 SpellsTerm rest behind e).fails left f)) u h

pub arguments_end : {text rest last : List ℕ} (all : List Term) → On text rest all → ((more : List ℕ) → rest ≡ 44 ∷ more → ⊥) → rest ≡ codes ")" ++ last → ReadsTo no_byte (ListedArguments SpellsTerm) text (all ++ []) last
arguments_end {rest = rest} {last = last} all w n e =
    run_end m (λ (u : Unit {0}). Front (codes ",") SpellsTerm) (λ u a. u) (λ b. b == 44) (codes ")") runs-term tt w (not_there 44 rest n) e (free_none last)

pub arguments_open : {text rest : List ℕ} {left : ℕ} (all : List Term) → On text rest all → ((more : List ℕ) → rest ≡ 44 ∷ more → ⊥) → NoFront (codes ")") rest left → FailsTo no_byte (ListedArguments SpellsTerm) text left
arguments_open {rest = rest} all w n f = run_no_end m (λ (u : Unit {0}). Front (codes ",") SpellsTerm) (λ u a. u) (λ b. b == 44) (codes ")") runs-term tt w (not_there 44 rest n) f

-- ---- how much is left
pub read_less : {A : Type 0} {p : ℕ → Bool} {L : A → List ℕ → Type 0} {bytes rest : List ℕ} {a : A} → ReadsTo p L bytes a rest → length rest ≤ length bytes
read_less {rest = rest} r = omega (arith, ap length r.whole, length-append r.text rest)

pub front_less : {bytes rest : List ℕ} (byte : ℕ) → bytes ≡ byte ∷ rest → length rest < length bytes
front_less byte e = omega (arith, ap length e)
