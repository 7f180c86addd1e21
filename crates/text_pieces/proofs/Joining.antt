-- Languages put together: what is read and where it fails.
use Rattle.std.proofs.Common.{◌≡◌, ℕ, List, [], ◌∷◌, ◌++◌, length, refl, sym, ap, subst, ◌∙◌, append_assoc, append-nil, false}
use Rattle.text_pieces.specs.Decimals.{is_digit}
use Rattle.text_pieces.specs.Languages.{NoDigit, GoesOn, Reads, StopsAt, Fails, Cat, Behind, Blank}
use Rattle.text_pieces.specs.Unambiguous.{HasOne, OneFront, StartsClear}

-- ---- lists
pub no_digit-append : (v x : List ℕ) → NoDigit v → NoDigit x → NoDigit (v ++ x)
no_digit-append [] x h k = k
no_digit-append (b ∷ bs) x h k = h

pub no_digit_front : (v x : List ℕ) → NoDigit (v ++ x) → NoDigit v
no_digit_front [] x h = tt
no_digit_front (b ∷ bs) x h = h

-- of two fronts of one list, one begins the other
pub data Fronts (u x f y : List ℕ) : Type 0 where
  within : (w : List ℕ) → f ≡ u ++ w → x ≡ w ++ y → Fronts u x f y
  beyond : (c : ℕ) (w : List ℕ) → u ≡ f ++ c ∷ w → y ≡ c ∷ (w ++ x) → Fronts u x f y

pub head_same : {a b : ℕ} {xs ys : List ℕ} → ◌≡◌ {A = List ℕ} (a ∷ xs) (b ∷ ys) → a ≡ b
head_same h = cc

pub tail_same : {a b : ℕ} {xs ys : List ℕ} → ◌≡◌ {A = List ℕ} (a ∷ xs) (b ∷ ys) → xs ≡ ys
tail_same h = cc

pub fronts : (u x f y : List ℕ) → u ++ x ≡ f ++ y → Fronts u x f y
fronts [] x f y h = within f refl h
fronts (a ∷ u) x [] y h = beyond a u refl (sym h)
fronts (a ∷ u) x (b ∷ f) y h = by (fronts u x f y (tail_same h)) (head_same h)
  where
    by : Fronts u x f y → a ≡ b → Fronts (a ∷ u) x (b ∷ f) y
    by (within w p q) e = within w (ap (λ c. c ∷ f) (sym e) ∙ ap (λ t. a ∷ t) p) q
    by (beyond c w p q) e = beyond c w (ap (λ t. a ∷ t) p ∙ ap (λ d. d ∷ (f ++ c ∷ w)) e) q

pub drop_front : (u x y : List ℕ) → u ++ x ≡ u ++ y → x ≡ y
drop_front [] x y h = h
drop_front (a ∷ u) x y h = drop_front u x y (tail_same h)

pub not_longer : (f : List ℕ) (c : ℕ) (w : List ℕ) → f ≡ f ++ c ∷ w → ⊥
not_longer [] c w h = cc
not_longer (a ∷ f) c w h = not_longer f c w (tail_same h)

-- ---- one text behind another
module _ {A B : Type 0} (L : A → List ℕ → Type 0) (M : A → B → List ℕ → Type 0) where
  pub cat_reads : (bytes middle rest : List ℕ) (a : A) (b : B) → Reads L bytes a middle → Reads (M a) middle b rest → Reads (Cat L M) bytes (a, b) rest
  cat_reads bytes middle rest a b r s = record {
    text = r.text ++ s.text;
    spelled = record { first = r.text; second = s.text; first_spelled = r.spelled; second_spelled = s.spelled; joined = refl };
    whole = r.whole ∙ ap (λ t. r.text ++ t) s.whole ∙ sym (append_assoc r.text s.text rest);
    ends = s.ends;
  }

  pub one_front-cat : OneFront L → ((a : A) → OneFront (M a)) → ((a : A) → StartsClear (M a)) → OneFront (Cat L M)
  one_front-cat one two clear p q t u x y s r h d e =
      let whole = sym (append_assoc s.first s.second x) ∙ ap (λ z. z ++ x) (sym s.joined) ∙ h ∙ ap (λ z. z ++ y) r.joined ∙ append_assoc r.first r.second y in
      let first = one p.0 q.0 s.first r.first (s.second ++ x) (r.second ++ y) s.first_spelled r.first_spelled whole
      (no_digit-append s.second x (clear p.0 p.1 s.second s.second_spelled) d) (no_digit-append r.second y (clear q.0 q.1 r.second r.second_spelled) e) in
      let second = two q.0 p.1 q.1 s.second r.second x y (subst (λ a. M a p.1 s.second) first.value s.second_spelled) r.second_spelled first.rest d e in
      record {
        value = ap (λ a. (a, p.1)) first.value ∙ ap (λ b. (q.0, b)) second.value;
        text = s.joined ∙ ap (λ z. z ++ s.second) first.text ∙ ap (λ z. r.first ++ z) second.text ∙ sym r.joined;
        rest = second.rest;
      }

  -- where the first fails
  pub cat_fails_first : (bytes : List ℕ) (left : ℕ) → ((a : A) (t : List ℕ) → L a t → HasOne (M a)) → ((a : A) → StartsClear (M a)) → Fails L bytes left → Fails (Cat L M) bytes left
  cat_fails_first bytes left some clear f = record {
    front = f.front;
    rest = f.rest;
    whole = f.whole;
    left_is = f.left_is;
    goes_on =
        let g = f.goes_on in
        let m = some g.value g.text g.spelled in
        record {
          value = (g.value, m.value);
          text = g.text ++ m.text;
          tail = g.tail ++ m.text;
          spelled = record { first = g.text; second = m.text; first_spelled = g.spelled; second_spelled = m.spelled; joined = refl };
          begins = ap (λ z. z ++ m.text) g.begins ∙ append_assoc f.front g.tail m.text;
        };
    stops = stop f.rest f.whole f.stops;
    none = λ p rest r.
        let s = r.spelled in
        f.none p.0 (s.second ++ rest) (record {
          text = s.first;
          spelled = s.first_spelled;
          whole = r.whole ∙ ap (λ z. z ++ rest) s.joined ∙ append_assoc s.first s.second rest;
          ends = no_digit-append s.second rest (clear p.0 p.1 s.second s.second_spelled) r.ends;
        });
  }
    where
      -- a text of both with the front and the byte: the first part goes on, or it was read
      stop : (rest : List ℕ) → bytes ≡ f.front ++ rest → StopsAt L f.front rest → StopsAt (Cat L M) f.front rest
      stop [] w k = tt
      stop (c ∷ cs) w k = λ g.
          let s = g.spelled in
          by g s (fronts s.first s.second (f.front ++ c ∷ []) g.tail (sym s.joined ∙ g.begins))
        where
          by : (g : GoesOn (Cat L M) (f.front ++ c ∷ [])) (s : Cat L M g.value g.text) → Fronts s.first s.second (f.front ++ c ∷ []) g.tail → ⊥
          by g s (beyond d more p q) = k (record { value = g.value.0; text = s.first; tail = d ∷ more; spelled = s.first_spelled; begins = p })
          by g s (within more p q) =
              inside more p (no_digit_front more g.tail (subst NoDigit q (clear g.value.0 g.value.1 s.second s.second_spelled)))
            where
              inside : (more : List ℕ) → f.front ++ c ∷ [] ≡ s.first ++ more → NoDigit more → ⊥
              inside [] p d = k (record { value = g.value.0; text = s.first; tail = []; spelled = s.first_spelled; begins = sym (append-nil s.first) ∙ sym p ∙ sym (append-nil (f.front ++ c ∷ [])) })
              inside (m ∷ ms) p d = f.none g.value.0 ((m ∷ ms) ++ cs) (record {
                text = s.first;
                spelled = s.first_spelled;
                whole = w ∙ sym (append_assoc f.front (c ∷ []) cs) ∙ ap (λ z. z ++ cs) p ∙ append_assoc s.first (m ∷ ms) cs;
                ends = d;
              })

  -- where the first was read and the second fails
  pub cat_fails_second : (bytes middle : List ℕ) (a : A) (left : ℕ) → OneFront L → ((a : A) → StartsClear (M a)) → Reads L bytes a middle → Fails (M a) middle left
      → Fails (Cat L M) bytes left
  cat_fails_second bytes middle a left one clear r f = record {
    front = r.text ++ f.front;
    rest = f.rest;
    whole = r.whole ∙ ap (λ t. r.text ++ t) f.whole ∙ sym (append_assoc r.text f.front f.rest);
    left_is = f.left_is;
    goes_on =
        let g = f.goes_on in
        record {
          value = (a, g.value);
          text = r.text ++ g.text;
          tail = g.tail;
          spelled = record { first = r.text; second = g.text; first_spelled = r.spelled; second_spelled = g.spelled; joined = refl };
          begins = ap (λ z. r.text ++ z) g.begins ∙ sym (append_assoc r.text f.front g.tail);
        };
    stops = stop f.rest f.whole f.stops;
    none = λ p rest s.
        let c = s.spelled in
        let same = one p.0 a c.first r.text (c.second ++ rest) middle c.first_spelled r.spelled
        (sym (append_assoc c.first c.second rest) ∙ ap (λ z. z ++ rest) (sym c.joined) ∙ sym s.whole ∙ r.whole)
        (no_digit-append c.second rest (clear p.0 p.1 c.second c.second_spelled) s.ends) r.ends in
        f.none p.1 rest (record {
          text = c.second;
          spelled = subst (λ v. M v p.1 c.second) same.value c.second_spelled;
          whole = sym same.rest;
          ends = s.ends;
        });
  }
    where
      stop : (rest : List ℕ) → middle ≡ f.front ++ rest → StopsAt (M a) f.front rest → StopsAt (Cat L M) (r.text ++ f.front) rest
      stop [] w k = tt
      stop (b ∷ bs) w k = λ g.
          let s = g.spelled in
          let front = f.front ++ b ∷ [] in
          let here : middle ≡ front ++ bs = w ∙ sym (append_assoc f.front (b ∷ []) bs) in
          let behind : NoDigit (front ++ g.tail) = no_digit_on f.front b bs g.tail (subst NoDigit w r.ends) in
          let same = one g.value.0 a s.first r.text s.second (front ++ g.tail) s.first_spelled r.spelled
          (sym s.joined ∙ g.begins ∙ ap (λ z. z ++ g.tail) (append_assoc r.text f.front (b ∷ [])) ∙ append_assoc r.text front g.tail)
          (clear g.value.0 g.value.1 s.second s.second_spelled) behind in
          k (record {
            value = g.value.1;
            text = s.second;
            tail = g.tail;
            spelled = subst (λ v. M v g.value.1 s.second) same.value s.second_spelled;
            begins = same.rest;
          })
        where
          no_digit_on : (f : List ℕ) (b : ℕ) (bs tail : List ℕ) → NoDigit (f ++ b ∷ bs) → NoDigit ((f ++ b ∷ []) ++ tail)
          no_digit_on [] b bs tail h = h
          no_digit_on (c ∷ f) b bs tail h = h

-- ---- a byte in front
module _ {A : Type 0} (byte : ℕ) (L : A → List ℕ → Type 0) where
  pub clear-behind : is_digit byte ≡ false → StartsClear (Behind byte L)
  clear-behind h a t s = subst NoDigit (sym s.joined) h

  pub has_one-behind : HasOne L → HasOne (Behind byte L)
  has_one-behind h = record { value = h.value; text = byte ∷ h.text; spelled = record { behind = h.text; spelled = h.spelled; joined = refl } }

  pub one_front-behind : OneFront L → OneFront (Behind byte L)
  one_front-behind one a b t u x y s r h d e =
      let same = one a b s.behind r.behind x y s.spelled r.spelled (tail_same (sym (ap (λ z. z ++ x) s.joined) ∙ h ∙ ap (λ z. z ++ y) r.joined)) d e in
      record { value = same.value; text = s.joined ∙ ap (λ z. byte ∷ z) same.text ∙ sym r.joined; rest = same.rest }

  pub behind_reads : (bytes rest : List ℕ) (a : A) → Reads L bytes a rest → Reads (Behind byte L) (byte ∷ bytes) a rest
  behind_reads bytes rest a r = record {
    text = byte ∷ r.text;
    spelled = record { behind = r.text; spelled = r.spelled; joined = refl };
    whole = ap (λ z. byte ∷ z) r.whole;
    ends = r.ends;
  }

  -- the bytes begin with another byte
  pub behind_missing : (bytes : List ℕ) → HasOne L → ((more : List ℕ) → bytes ≡ byte ∷ more → ⊥) → Fails (Behind byte L) bytes (length bytes)
  behind_missing bytes h missing = record {
    front = [];
    rest = bytes;
    whole = refl;
    left_is = refl;
    goes_on = record { value = h.value; text = byte ∷ h.text; tail = byte ∷ h.text; spelled = record { behind = h.text; spelled = h.spelled; joined = refl }; begins = refl };
    stops = stop bytes missing;
    none = λ a rest r. missing (r.spelled.behind ++ rest) (r.whole ∙ ap (λ z. z ++ rest) r.spelled.joined);
  }
    where
      stop : (bytes : List ℕ) → ((more : List ℕ) → bytes ≡ byte ∷ more → ⊥) → StopsAt (Behind byte L) [] bytes
      stop [] m = tt
      stop (b ∷ bs) m = λ g. m bs (ap (λ c. c ∷ bs) (sym (head_same (sym g.spelled.joined ∙ g.begins))))

  pub behind_fails : (bytes : List ℕ) (left : ℕ) → Fails L bytes left → Fails (Behind byte L) (byte ∷ bytes) left
  behind_fails bytes left f = record {
    front = byte ∷ f.front;
    rest = f.rest;
    whole = ap (λ z. byte ∷ z) f.whole;
    left_is = f.left_is;
    goes_on =
        let g = f.goes_on in
        record { value = g.value; text = byte ∷ g.text; tail = g.tail; spelled = record { behind = g.text; spelled = g.spelled; joined = refl }; begins = ap (λ z. byte ∷ z) g.begins };
    stops = stop f.rest f.stops;
    none = λ a rest r. f.none a rest (record {
      text = r.spelled.behind;
      spelled = r.spelled.spelled;
      whole = tail_same (r.whole ∙ ap (λ z. z ++ rest) r.spelled.joined);
      ends = r.ends;
    });
  }
    where
      stop : (rest : List ℕ) → StopsAt L f.front rest → StopsAt (Behind byte L) (byte ∷ f.front) rest
      stop [] k = tt
      stop (b ∷ bs) k = λ g. k (record {
        value = g.value;
        text = g.spelled.behind;
        tail = g.tail;
        spelled = g.spelled.spelled;
        begins = tail_same (sym g.spelled.joined ∙ g.begins);
      })

-- ---- a blank in front
pub clear-blank : {A : Type 0} (L : A → List ℕ → Type 0) → StartsClear (Blank L)
clear-blank L = clear-behind 32 L refl

pub has_one-blank : {A : Type 0} (L : A → List ℕ → Type 0) → HasOne L → HasOne (Blank L)
has_one-blank L = has_one-behind 32 L

pub one_front-blank : {A : Type 0} (L : A → List ℕ → Type 0) → OneFront L → OneFront (Blank L)
one_front-blank L = one_front-behind 32 L

-- ---- the same texts under other values
-- each text of the one language is a text of the other, whichever the value
abbrev pub Covers : {A B : Type 0} → (A → List ℕ → Type 0) → (B → List ℕ → Type 0) → Type 0
Covers {A} {B} L M = (a : A) (t : List ℕ) → L a t → (b : B) × M b t

pub same_fails : {A B : Type 0} (L : A → List ℕ → Type 0) (M : B → List ℕ → Type 0) → Covers L M → Covers M L → (bytes : List ℕ) (left : ℕ) → Fails L bytes left → Fails M bytes left
same_fails L M forth back bytes left f = record {
  front = f.front;
  rest = f.rest;
  whole = f.whole;
  left_is = f.left_is;
  goes_on =
      let g = f.goes_on in
      let m = forth g.value g.text g.spelled in
      record { value = m.0; text = g.text; tail = g.tail; spelled = m.1; begins = g.begins };
  stops = stop f.rest f.stops;
  none = λ b rest r.
      let m = back b r.text r.spelled in
      f.none m.0 rest (record { text = r.text; spelled = m.1; whole = r.whole; ends = r.ends });
}
  where
    stop : (rest : List ℕ) → StopsAt L f.front rest → StopsAt M f.front rest
    stop [] k = tt
    stop (b ∷ bs) k = λ g.
        let m = back g.value g.text g.spelled in
        k (record { value = m.0; text = g.text; tail = g.tail; spelled = m.1; begins = g.begins })

pub same_reads : {A B : Type 0} (L : A → List ℕ → Type 0) (M : B → List ℕ → Type 0) (a : A) (b : B) → ((t : List ℕ) → L a t → M b t) → (bytes rest : List ℕ)
    → Reads L bytes a rest → Reads M bytes b rest
same_reads L M a b h bytes rest r = record { text = r.text; spelled = h r.text r.spelled; whole = r.whole; ends = r.ends }
