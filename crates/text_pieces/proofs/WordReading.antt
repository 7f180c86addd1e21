-- Words in front of texts.
use Rattle.std.proofs.Common.{◌≡◌, ℕ, Bool, false, List, [], ◌∷◌, ◌++◌, length, refl, sym, ap, subst, ◌∙◌}
use Rattle.text_pieces.specs.Languages.{StopsAt, Behind, Free, ReadsTo, FailsTo}
use Rattle.text_pieces.specs.Unambiguous.{HasOne, OneFrontTo}
use Rattle.text_pieces.proofs.Joining.{drop_front}
use Rattle.text_pieces.specs.Fronts.{Front, Word, NoFront}
use Rattle.text_pieces.proofs.Ends.{Joins, one_front-behind, behind_missing, behind_fails}
use Rattle.text_pieces.proofs.Lifts.{Lift, lift-self, lift-then, lift-behind, Sure, Next, sure-behind}

pub one_front-front : {A : Type 0} (q : ℕ → Bool) (word : List ℕ) (L : A → List ℕ → Type 0) → OneFrontTo q L → OneFrontTo q (Front word L)
one_front-front q [] L one = one
one_front-front q (b ∷ bs) L one = one_front-behind q b (Front bs L) (one_front-front q bs L one)

pub sure-front : {A : Type 0} {q : ℕ → Bool} (word : List ℕ) {L : A → List ℕ → Type 0} → Sure q L → Sure q (Front word L)
sure-front [] l = l
sure-front (b ∷ bs) l = sure-behind b (sure-front bs l)

pub lift-front : {A : Type 0} (q : ℕ → Bool) (word : List ℕ) (L : A → List ℕ → Type 0) (bytes after : List ℕ) → bytes ≡ word ++ after → Lift q (Front word L) bytes L after (λ a. a)
lift-front q [] L bytes after e = subst (λ z. Lift q L bytes L z (λ a. a)) e (lift-self q L bytes)
lift-front q (b ∷ bs) L bytes after e = lift-then (lift-behind q b (Front bs L) bytes (bs ++ after) e) (lift-front q bs L (bs ++ after) after refl)

has_one-front : {A : Type 0} (word : List ℕ) (L : A → List ℕ → Type 0) → HasOne L → HasOne (Front word L)
has_one-front [] L h = h
has_one-front (b ∷ bs) L h = let g = has_one-front bs L h in record { value = g.value; text = b ∷ g.text; spelled = record { behind = g.text; spelled = g.spelled; joined = refl } }

missing_at : {A : Type 0} (q : ℕ → Bool) (L : A → List ℕ → Type 0) → HasOne L → (word done todo bytes rest : List ℕ) (next : ℕ) → word ≡ done ++ next ∷ todo → bytes ≡ done ++ rest → ((more : List ℕ) → rest ≡ next ∷ more → ⊥)
    → FailsTo q (Front word L) bytes (length rest)
missing_at q L some word [] todo bytes rest next e w m =
    let at : FailsTo q (Behind next (Front todo L)) rest (length rest) = behind_missing q next (Front todo L) rest (has_one-front todo L some) m in
    subst (λ z. FailsTo q (Front z L) bytes (length rest)) (sym e) (subst (λ z. FailsTo q (Behind next (Front todo L)) z (length rest)) (sym w) at)
missing_at q L some word (d ∷ done) todo bytes rest next e w m =
    let more = missing_at q L some (done ++ next ∷ todo) done todo (done ++ rest) rest next refl refl m in
    subst (λ z. FailsTo q (Front z L) bytes (length rest)) (sym e) (subst (λ z. FailsTo q (Behind d (Front (done ++ next ∷ todo) L)) z (length rest)) (sym w)
    (behind_fails q d (Front (done ++ next ∷ todo) L) (done ++ rest) (length rest) more))

pub no_front : {A : Type 0} (q : ℕ → Bool) (word : List ℕ) (L : A → List ℕ → Type 0) (bytes : List ℕ) (left : ℕ) → HasOne L → NoFront word bytes left → FailsTo q (Front word L) bytes left
no_front q word L bytes left some n =
    subst (FailsTo q (Front word L) bytes) n.left_is (missing_at q L some word n.done n.todo bytes n.rest n.next n.split n.whole n.missing)

-- ---- parts behind a word
pub read_front : {A C : Type 0} {q : ℕ → Bool} {W : C → List ℕ → Type 0} {L : A → List ℕ → Type 0} {bytes middle last : List ℕ} {f : A → C} (word : List ℕ)
    → Lift q W bytes (Front word L) middle f → middle ≡ word ++ last → Lift q W bytes L last f
read_front {q = q} {L = L} {middle = middle} {last = last} word w e = lift-then w (lift-front q word L middle last e)

pub front_fails : {A C : Type 0} {q : ℕ → Bool} {W : C → List ℕ → Type 0} {L : A → List ℕ → Type 0} {bytes middle : List ℕ} {f : A → C} {left : ℕ} (word : List ℕ)
    → Lift q W bytes (Front word L) middle f → Sure q L → NoFront word middle left → FailsTo q W bytes left
front_fails {q = q} {L = L} {middle = middle} {left = left} word w l n = w.fails left (no_front q word L middle left l.some n)

-- ---- a word alone
pub one_front-word : (q : ℕ → Bool) (word : List ℕ) (a b : Unit {0}) (t u x y : List ℕ) → Word word a t → Word word b u → t ++ x ≡ u ++ y → x ≡ y
one_front-word q word a b t u x y s r h = drop_front word x y (ap (λ z. z ++ x) (sym s) ∙ h ∙ ap (λ z. z ++ y) r)

pub sure-word : (q : ℕ → Bool) (word : List ℕ) → Sure q (Word word)
sure-word q word = record {
  one = λ a b t u x y s r h d e. record { value = refl; text = s ∙ sym r; rest = one_front-word q word a b t u x y s r h };
  some = record { value = tt; text = word; spelled = refl };
}

pub word_reads : (q : ℕ → Bool) (word bytes rest : List ℕ) → bytes ≡ word ++ rest → Free q rest → ReadsTo q (Word word) bytes tt rest
word_reads q word bytes rest e d = record { text = word; spelled = refl; whole = e; ends = d }

-- a word is itself in front of nothing
front_word : (word : List ℕ) (t : List ℕ) → Front word (Word []) tt t → t ≡ word
front_word [] t s = s
front_word (b ∷ bs) t s = s.joined ∙ ap (λ z. b ∷ z) (front_word bs s.behind s.spelled)

word_front : (word : List ℕ) (t : List ℕ) → t ≡ word → Front word (Word []) tt t
word_front [] t e = e
word_front (b ∷ bs) t e = record { behind = bs; spelled = word_front bs bs refl; joined = e }

pub no_word : (q : ℕ → Bool) (word bytes : List ℕ) (left : ℕ) → NoFront word bytes left → FailsTo q (Word word) bytes left
no_word q word bytes left n =
    let f = no_front q word (Word []) bytes left (record { value = tt; text = []; spelled = refl }) n in
    record {
      front = f.front;
      rest = f.rest;
      whole = f.whole;
      left_is = f.left_is;
      goes_on = let g = f.goes_on in record { value = tt; text = g.text; tail = g.tail; spelled = front_word word g.text g.spelled; begins = g.begins };
      stops = stop f.front f.rest f.stops;
      none = λ a rest r. f.none tt rest (record { text = r.text; spelled = word_front word r.text r.spelled; whole = r.whole; ends = r.ends });
    }
  where
    stop : (front rest : List ℕ) → StopsAt (Front word (Word [])) front rest → StopsAt (Word word) front rest
    stop front [] k = tt
    stop front (b ∷ bs) k = λ g. k (record { value = tt; text = g.text; tail = g.tail; spelled = word_front word g.text g.spelled; begins = g.begins })

-- ---- what begins with a byte
-- each text begins with a byte that isn't of p
pub joins-front : {A : Type 0} (p q : ℕ → Bool) (b : ℕ) (bs : List ℕ) (L : A → List ℕ → Type 0) → p b ≡ false → Joins p q (Front (b ∷ bs) L)
joins-front p q b bs L h a t x s d = subst (λ z. Free p (z ++ x)) (sym s.joined) h

pub next-front : {A : Type 0} {p q : ℕ → Bool} (b : ℕ) (bs : List ℕ) {L : A → List ℕ → Type 0} → p b ≡ false → Sure q L → Next p q (Front (b ∷ bs) L)
next-front {p = p} {q = q} b bs {L = L} h l = record { sure = sure-front (b ∷ bs) l; joins = joins-front p q b bs L h }

pub next-word : {p q : ℕ → Bool} (b : ℕ) (bs : List ℕ) → p b ≡ false → Next p q (Word (b ∷ bs))
next-word {p = p} {q = q} b bs h = record { sure = sure-word q (b ∷ bs); joins = λ a t x s d. subst (λ z. Free p (z ++ x)) (sym s) h }
