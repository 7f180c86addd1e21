-- Languages put together, where some bytes may not follow a text.
use Rattle.std.proofs.Common.{◌≡◌, ℕ, Bool, false, true, List, [], ◌∷◌, ◌++◌, length, refl, sym, ap, subst, ◌∙◌, append_assoc, append-nil}
use Rattle.std.specs.Prelude.{◌||◌, ◌==◌}
use Rattle.text_pieces.specs.Decimals.{is_digit}
use Rattle.text_pieces.specs.Languages.{GoesOn, StopsAt, Cat, Behind, Image, Free, ReadsTo, FailsTo}
use Rattle.text_pieces.specs.Unambiguous.{HasOne, OneFrontTo}
use Rattle.text_pieces.proofs.Joining.{Fronts, within, beyond, fronts, head_same, tail_same, not_longer}
use Rattle.text_pieces.specs.Ending.{no_byte, is_digit_or_bracket, Followed}

-- ---- what follows
pub free_none : (x : List ℕ) → Free no_byte x
free_none [] = tt
free_none (b ∷ bs) = refl

-- where none of the bytes of q follows, none of p does
abbrev pub Within : (ℕ → Bool) → (ℕ → Bool) → Type 0
Within p q = (x : List ℕ) → Free q x → Free p x

pub within_none : (q : ℕ → Bool) → Within no_byte q
within_none q x h = free_none x

or_left : (a b : Bool) → a || b ≡ false → a ≡ false
or_left false b h = refl
or_left true b h = h

pub within_digit : Within is_digit is_digit_or_bracket
within_digit [] h = tt
within_digit (b ∷ bs) h = or_left (is_digit b) (b == 40) h

-- more bytes may not follow
pub fails_within : {A : Type 0} (p q : ℕ → Bool) (L : A → List ℕ → Type 0) (bytes : List ℕ) (left : ℕ) → Within p q → FailsTo p L bytes left → FailsTo q L bytes left
fails_within p q L bytes left w f = record {
  front = f.front;
  rest = f.rest;
  whole = f.whole;
  left_is = f.left_is;
  goes_on = f.goes_on;
  stops = f.stops;
  none = λ a rest r. f.none a rest (record { text = r.text; spelled = r.spelled; whole = r.whole; ends = w rest r.ends });
}

pub one_within : {A : Type 0} (p q : ℕ → Bool) (L : A → List ℕ → Type 0) → Within p q → OneFrontTo p L → OneFrontTo q L
one_within p q L w one a b t u x y s r h d e = one a b t u x y s r h (w x d) (w y e)

-- ---- one text behind another
-- what begins with a text of the language, and goes on without the bytes of q, begins with none of p
abbrev pub Joins : {B : Type 0} → (ℕ → Bool) → (ℕ → Bool) → (B → List ℕ → Type 0) → Type 0
Joins {B} p q M = (b : B) (t x : List ℕ) → M b t → Free q x → Free p (t ++ x)

-- where the first of two parts is
pub joins-first : {A B : Type 0} (p q : ℕ → Bool) (L : A → List ℕ → Type 0) (M : A → B → List ℕ → Type 0) → ((a : A) (t x : List ℕ) → L a t → Free p (t ++ x)) → Joins p q (Cat L M)
joins-first p q L M h v t x s d = subst (Free p) (sym (ap (λ z. z ++ x) s.joined ∙ append_assoc s.first s.second x)) (h v.0 s.first (s.second ++ x) s.first_spelled)

free_at : (p : ℕ → Bool) (f : List ℕ) (b : ℕ) (bs tail : List ℕ) → Free p (f ++ b ∷ bs) → Free p ((f ++ b ∷ []) ++ tail)
free_at p [] b bs tail h = h
free_at p (c ∷ f) b bs tail h = h

module _ {A B : Type 0} (p q : ℕ → Bool) (L : A → List ℕ → Type 0) (M : A → B → List ℕ → Type 0) where
  pub cat_reads : (bytes middle rest : List ℕ) (a : A) (b : B) → ReadsTo p L bytes a middle → ReadsTo q (M a) middle b rest → ReadsTo q (Cat L M) bytes (a, b) rest
  cat_reads bytes middle rest a b r s = record {
    text = r.text ++ s.text;
    spelled = record { first = r.text; second = s.text; first_spelled = r.spelled; second_spelled = s.spelled; joined = refl };
    whole = r.whole ∙ ap (λ t. r.text ++ t) s.whole ∙ sym (append_assoc r.text s.text rest);
    ends = s.ends;
  }

  pub one_front-cat : OneFrontTo p L → ((a : A) → OneFrontTo q (M a)) → ((a : A) → Joins p q (M a)) → OneFrontTo q (Cat L M)
  one_front-cat one two joins v w t u x y s r h d e =
      let whole = sym (append_assoc s.first s.second x) ∙ ap (λ z. z ++ x) (sym s.joined) ∙ h ∙ ap (λ z. z ++ y) r.joined ∙ append_assoc r.first r.second y in
      let first = one v.0 w.0 s.first r.first (s.second ++ x) (r.second ++ y) s.first_spelled r.first_spelled whole
      (joins v.0 v.1 s.second x s.second_spelled d) (joins w.0 w.1 r.second y r.second_spelled e) in
      let second = two w.0 v.1 w.1 s.second r.second x y (subst (λ a. M a v.1 s.second) first.value s.second_spelled) r.second_spelled first.rest d e in
      record {
        value = ap (λ a. (a, v.1)) first.value ∙ ap (λ b. (w.0, b)) second.value;
        text = s.joined ∙ ap (λ z. z ++ s.second) first.text ∙ ap (λ z. r.first ++ z) second.text ∙ sym r.joined;
        rest = second.rest;
      }

  -- where the first fails
  pub cat_fails_first : (bytes : List ℕ) (left : ℕ) → ((a : A) → HasOne (M a)) → ((a : A) → Joins p q (M a)) → FailsTo p L bytes left → FailsTo q (Cat L M) bytes left
  cat_fails_first bytes left some joins f = record {
    front = f.front;
    rest = f.rest;
    whole = f.whole;
    left_is = f.left_is;
    goes_on =
        let g = f.goes_on in
        let m = some g.value in
        record {
          value = (g.value, m.value);
          text = g.text ++ m.text;
          tail = g.tail ++ m.text;
          spelled = record { first = g.text; second = m.text; first_spelled = g.spelled; second_spelled = m.spelled; joined = refl };
          begins = ap (λ z. z ++ m.text) g.begins ∙ append_assoc f.front g.tail m.text;
        };
    stops = stop f.rest f.whole f.stops;
    none = λ v rest r.
        let s = r.spelled in
        f.none v.0 (s.second ++ rest) (record {
          text = s.first;
          spelled = s.first_spelled;
          whole = r.whole ∙ ap (λ z. z ++ rest) s.joined ∙ append_assoc s.first s.second rest;
          ends = joins v.0 v.1 s.second rest s.second_spelled r.ends;
        });
  }
    where
      -- a text of both with the front and the byte: the first part goes on, or it was read
      stop : (rest : List ℕ) → bytes ≡ f.front ++ rest → StopsAt L f.front rest → StopsAt (Cat L M) f.front rest
      stop [] w k = tt
      stop (c ∷ cs) w k = λ g.
          let s = g.spelled in
          by g s (fronts s.first s.second (f.front ++ c ∷ []) g.tail (sym s.joined ∙ g.begins))
        where
          by : (g : GoesOn (Cat L M) (f.front ++ c ∷ [])) (s : Cat L M g.value g.text) → Fronts s.first s.second (f.front ++ c ∷ []) g.tail → ⊥
          by g s (beyond d more e i) = k (record { value = g.value.0; text = s.first; tail = d ∷ more; spelled = s.first_spelled; begins = e })
          by g s (within more e i) = inside more e (subst (λ z. Free p (z ++ [])) i (joins g.value.0 g.value.1 s.second [] s.second_spelled tt))
            where
              inside : (more : List ℕ) → f.front ++ c ∷ [] ≡ s.first ++ more → Free p ((more ++ g.tail) ++ []) → ⊥
              inside [] e d = k (record { value = g.value.0; text = s.first; tail = []; spelled = s.first_spelled; begins = sym (append-nil s.first) ∙ sym e ∙ sym (append-nil (f.front ++ c ∷ [])) })
              inside (m ∷ ms) e d = f.none g.value.0 ((m ∷ ms) ++ cs) (record {
                text = s.first;
                spelled = s.first_spelled;
                whole = w ∙ sym (append_assoc f.front (c ∷ []) cs) ∙ ap (λ z. z ++ cs) e ∙ append_assoc s.first (m ∷ ms) cs;
                ends = d;
              })

  -- where the first was read and the second fails
  pub cat_fails_second : (bytes middle : List ℕ) (a : A) (left : ℕ) → OneFrontTo p L → ((a : A) → Joins p q (M a)) → ReadsTo p L bytes a middle → FailsTo q (M a) middle left
      → FailsTo q (Cat L M) bytes left
  cat_fails_second bytes middle a left one joins r f = record {
    front = r.text ++ f.front;
    rest = f.rest;
    whole = r.whole ∙ ap (λ t. r.text ++ t) f.whole ∙ sym (append_assoc r.text f.front f.rest);
    left_is = f.left_is;
    goes_on =
        let g = f.goes_on in
        record {
          value = (a, g.value);
          text = r.text ++ g.text;
          tail = g.tail;
          spelled = record { first = r.text; second = g.text; first_spelled = r.spelled; second_spelled = g.spelled; joined = refl };
          begins = ap (λ z. r.text ++ z) g.begins ∙ sym (append_assoc r.text f.front g.tail);
        };
    stops = stop f.rest f.whole f.stops;
    none = λ v rest s.
        let c = s.spelled in
        let same = one v.0 a c.first r.text (c.second ++ rest) middle c.first_spelled r.spelled
        (sym (append_assoc c.first c.second rest) ∙ ap (λ z. z ++ rest) (sym c.joined) ∙ sym s.whole ∙ r.whole)
        (joins v.0 v.1 c.second rest c.second_spelled s.ends) r.ends in
        f.none v.1 rest (record {
          text = c.second;
          spelled = subst (λ z. M z v.1 c.second) same.value c.second_spelled;
          whole = sym same.rest;
          ends = s.ends;
        });
  }
    where
      stop : (rest : List ℕ) → middle ≡ f.front ++ rest → StopsAt (M a) f.front rest → StopsAt (Cat L M) (r.text ++ f.front) rest
      stop [] w k = tt
      stop (b ∷ bs) w k = λ g.
          let s = g.spelled in
          let front = f.front ++ b ∷ [] in
          let behind : Free p (front ++ g.tail) = free_at p f.front b bs g.tail (subst (Free p) w r.ends) in
          let clear : Free p s.second = subst (Free p) (append-nil s.second) (joins g.value.0 g.value.1 s.second [] s.second_spelled tt) in
          let same = one g.value.0 a s.first r.text s.second (front ++ g.tail) s.first_spelled r.spelled
          (sym s.joined ∙ g.begins ∙ ap (λ z. z ++ g.tail) (append_assoc r.text f.front (b ∷ [])) ∙ append_assoc r.text front g.tail)
          clear behind in
          k (record {
            value = g.value.1;
            text = s.second;
            tail = g.tail;
            spelled = subst (λ v. M v g.value.1 s.second) same.value s.second_spelled;
            begins = same.rest;
          })

-- ---- a byte in front
module _ {A : Type 0} (p : ℕ → Bool) (byte : ℕ) (L : A → List ℕ → Type 0) where
  pub one_front-behind : OneFrontTo p L → OneFrontTo p (Behind byte L)
  one_front-behind one a b t u x y s r h d e =
      let same = one a b s.behind r.behind x y s.spelled r.spelled (tail_same (sym (ap (λ z. z ++ x) s.joined) ∙ h ∙ ap (λ z. z ++ y) r.joined)) d e in
      record { value = same.value; text = s.joined ∙ ap (λ z. byte ∷ z) same.text ∙ sym r.joined; rest = same.rest }

  pub behind_reads : (bytes rest : List ℕ) (a : A) → ReadsTo p L bytes a rest → ReadsTo p (Behind byte L) (byte ∷ bytes) a rest
  behind_reads bytes rest a r = record {
    text = byte ∷ r.text;
    spelled = record { behind = r.text; spelled = r.spelled; joined = refl };
    whole = ap (λ z. byte ∷ z) r.whole;
    ends = r.ends;
  }

  -- the bytes begin with another byte
  pub behind_missing : (bytes : List ℕ) → HasOne L → ((more : List ℕ) → bytes ≡ byte ∷ more → ⊥) → FailsTo p (Behind byte L) bytes (length bytes)
  behind_missing bytes h missing = record {
    front = [];
    rest = bytes;
    whole = refl;
    left_is = refl;
    goes_on = record { value = h.value; text = byte ∷ h.text; tail = byte ∷ h.text; spelled = record { behind = h.text; spelled = h.spelled; joined = refl }; begins = refl };
    stops = stop bytes missing;
    none = λ a rest r. missing (r.spelled.behind ++ rest) (r.whole ∙ ap (λ z. z ++ rest) r.spelled.joined);
  }
    where
      stop : (bytes : List ℕ) → ((more : List ℕ) → bytes ≡ byte ∷ more → ⊥) → StopsAt (Behind byte L) [] bytes
      stop [] m = tt
      stop (b ∷ bs) m = λ g. m bs (ap (λ c. c ∷ bs) (sym (head_same (sym g.spelled.joined ∙ g.begins))))

  pub behind_fails : (bytes : List ℕ) (left : ℕ) → FailsTo p L bytes left → FailsTo p (Behind byte L) (byte ∷ bytes) left
  behind_fails bytes left f = record {
    front = byte ∷ f.front;
    rest = f.rest;
    whole = ap (λ z. byte ∷ z) f.whole;
    left_is = f.left_is;
    goes_on =
        let g = f.goes_on in
        record { value = g.value; text = byte ∷ g.text; tail = g.tail; spelled = record { behind = g.text; spelled = g.spelled; joined = refl }; begins = ap (λ z. byte ∷ z) g.begins };
    stops = stop f.rest f.stops;
    none = λ a rest r. f.none a rest (record {
      text = r.spelled.behind;
      spelled = r.spelled.spelled;
      whole = tail_same (r.whole ∙ ap (λ z. z ++ rest) r.spelled.joined);
      ends = r.ends;
    });
  }
    where
      stop : (rest : List ℕ) → StopsAt L f.front rest → StopsAt (Behind byte L) (byte ∷ f.front) rest
      stop [] k = tt
      stop (b ∷ bs) k = λ g. k (record {
        value = g.value;
        text = g.spelled.behind;
        tail = g.tail;
        spelled = g.spelled.spelled;
        begins = tail_same (sym g.spelled.joined ∙ g.begins);
      })

-- ---- values that are made, and the same texts under other values
pub one_front-image : {A B : Type 0} (p : ℕ → Bool) (f : A → B) (L : A → List ℕ → Type 0) → OneFrontTo p L → OneFrontTo p (Image f L)
one_front-image p f L one a b t u x y s r h d e =
    let same = one s.from r.from t u x y s.spelled r.spelled h d e in
    record { value = s.is ∙ ap f same.value ∙ sym r.is; text = same.text; rest = same.rest }

-- each text of the one language is a text of the other, whichever the value
abbrev pub Covers : {A B : Type 0} → (A → List ℕ → Type 0) → (B → List ℕ → Type 0) → Type 0
Covers {A} {B} L M = (a : A) (t : List ℕ) → L a t → (b : B) × M b t

pub same_fails : {A B : Type 0} (p : ℕ → Bool) (L : A → List ℕ → Type 0) (M : B → List ℕ → Type 0) → Covers L M → Covers M L → (bytes : List ℕ) (left : ℕ) → FailsTo p L bytes left → FailsTo p M bytes left
same_fails p L M forth back bytes left f = record {
  front = f.front;
  rest = f.rest;
  whole = f.whole;
  left_is = f.left_is;
  goes_on =
      let g = f.goes_on in
      let m = forth g.value g.text g.spelled in
      record { value = m.0; text = g.text; tail = g.tail; spelled = m.1; begins = g.begins };
  stops = stop f.rest f.stops;
  none = λ b rest r.
      let m = back b r.text r.spelled in
      f.none m.0 rest (record { text = r.text; spelled = m.1; whole = r.whole; ends = r.ends });
}
  where
    stop : (rest : List ℕ) → StopsAt L f.front rest → StopsAt M f.front rest
    stop [] k = tt
    stop (b ∷ bs) k = λ g.
        let m = back g.value g.text g.spelled in
        k (record { value = m.0; text = g.text; tail = g.tail; spelled = m.1; begins = g.begins })

pub same_reads : {A B : Type 0} (p : ℕ → Bool) (L : A → List ℕ → Type 0) (M : B → List ℕ → Type 0) (a : A) (b : B) → ((t : List ℕ) → L a t → M b t) → (bytes rest : List ℕ)
    → ReadsTo p L bytes a rest → ReadsTo p M bytes b rest
same_reads p L M a b h bytes rest r = record { text = r.text; spelled = h r.text r.spelled; whole = r.whole; ends = r.ends }

-- ---- a byte of q follows a text that was read
pub follows_fails : {A : Type 0} (p q : ℕ → Bool) (L : A → List ℕ → Type 0) (bytes rest more : List ℕ) (a : A) (c : ℕ) → Within p q → OneFrontTo p L → ReadsTo p L bytes a rest → rest ≡ c ∷ more → q c ≡ true
    → FailsTo q L bytes (length rest)
follows_fails p q L bytes rest more a c w one r e h = record {
  front = r.text;
  rest = rest;
  whole = r.whole;
  left_is = refl;
  goes_on = record { value = a; text = r.text; tail = []; spelled = r.spelled; begins = sym (append-nil r.text) };
  stops = stop rest r.ends;
  none = λ b rest' s.
      let same = one b a s.text r.text rest' rest s.spelled r.spelled (sym s.whole ∙ r.whole) (w rest' s.ends) r.ends in
      differ (sym h ∙ subst (Free q) (same.rest ∙ e) s.ends);
}
  where
    differ : true ≡ false → ⊥
    differ h = cc

    stop : (rest : List ℕ) → Free p rest → StopsAt L r.text rest
    stop [] d = tt
    stop (b ∷ bs) d = λ g.
        let same = one a g.value r.text g.text (b ∷ g.tail) [] r.spelled g.spelled (sym (append_assoc r.text (b ∷ []) g.tail) ∙ sym g.begins ∙ sym (append-nil g.text)) d tt in
        not_longer r.text b g.tail (same.text ∙ g.begins ∙ append_assoc r.text (b ∷ []) g.tail)

pub followed_fails : {A : Type 0} {p q : ℕ → Bool} {L : A → List ℕ → Type 0} {bytes rest : List ℕ} {a : A} {left : ℕ} → Within p q → OneFrontTo p L → ReadsTo p L bytes a rest → Followed q rest left → FailsTo q L bytes left
followed_fails {p = p} {q = q} {L = L} {bytes = bytes} {rest = rest} {a = a} w one r f =
    subst (FailsTo q L bytes) f.left_is (follows_fails p q L bytes rest f.behind a f.byte w one r f.is f.follows)

pub read_on : {A : Type 0} {p q : ℕ → Bool} {L : A → List ℕ → Type 0} {bytes rest : List ℕ} {a : A} → ReadsTo p L bytes a rest → Free q rest → ReadsTo q L bytes a rest
read_on {p = p} {q = q} {L = L} {bytes = bytes} {rest = rest} {a = a} r h = record { text = r.text; spelled = r.spelled; whole = r.whole; ends = h }
