-- Where a number's digits go on, and where they end.
use Rattle.std.proofs.Common.{◌≡◌, ℕ, zero, suc, ◌+◌, ◌-◌, ◌*◌, ◌/◌, ◌%◌, ◌^◌, ◌<◌, ◌≤◌, Bool, true, false, ltb, List, [], ◌∷◌, ◌++◌, length, refl, sym, ap, subst, ◌∙◌, append_assoc, append-nil, arith}
use Rattle.std.proofs.lemmas.Bool.{and_parts, and_from, false≢true, ltb-true, le-leb}
use Rattle.std.proofs.lemmas.Bool.Decides.{nat_tests}
use Rattle.std.proofs.Math.Nat.{div-le_self}
use Rattle.std.proofs.lemmas.List.Folds.{list_all-append}
use Rattle.std.specs.List.{list_all}
use Rattle.text_pieces.specs.Decimals.{is_digit, decimal}
use Rattle.text_pieces.specs.Languages.{NoDigit, GoesOn, Reads, StopsAt, Fails}
use Rattle.text_pieces.specs.Numbers.{Number, Within, Reaches}
use Rattle.text_pieces.proofs.Digits.{AllDigits, all_digits, reading, reading-append, decimal_value, front_value, begins, first_digit, decimal_digit, decimal_step}
use Rattle.text_pieces.proofs.Joining.{Fronts, within, beyond, fronts, head_same, tail_same, drop_front}
use Rattle.text_pieces.specs.Unambiguous.{HasOne, OneFront}

-- a decimal text has a first digit
pub record Head (n : ℕ) : Type 0 where
  pub head : ℕ
  pub tail : List ℕ
  pub is : decimal n ≡ head ∷ tail
  pub digit : is_digit head ≡ true

pub decimal_head : (n : ℕ) → Head n
decimal_head zero = record { head = 48; tail = []; is = decimal_digit 0 (omega arith); digit = refl }
decimal_head (suc n) = let f = first_digit (suc n) (omega arith) in record { head = f.head; tail = f.tail; is = f.is; digit = f.digit }

-- ---- a number's text ends where its digits do
pub no_digit_head : (b : ℕ) (bs x : List ℕ) → x ≡ b ∷ bs → NoDigit x → is_digit b ≡ true → ⊥
no_digit_head b bs x e c d = false≢true (sym (subst NoDigit e c) ∙ d)

pub digits_end : (ds es x y : List ℕ) → AllDigits ds → AllDigits es → ds ++ x ≡ es ++ y → NoDigit x → NoDigit y → ds ≡ es
digits_end [] [] x y a b h c d = refl
digits_end [] (e ∷ es) x y a b h c d = absurd (no_digit_head e (es ++ y) x h c (and_parts _ _ b).0)
digits_end (d ∷ ds) [] x y a b h c k = absurd (no_digit_head d (ds ++ x) y (sym h) k (and_parts _ _ a).0)
digits_end (d ∷ ds) (e ∷ es) x y a b h c k =
    ap (λ b. b ∷ ds) (head_same h) ∙ ap (λ bs. e ∷ bs) (digits_end ds es x y (and_parts _ _ a).1 (and_parts _ _ b).1 (tail_same h) c k)

pub one_decimal : (m n : ℕ) (x y : List ℕ) → decimal m ++ x ≡ decimal n ++ y → NoDigit x → NoDigit y → (m ≡ n) × (x ≡ y)
one_decimal m n x y h c d =
    let same = digits_end (decimal m) (decimal n) x y (all_digits m) (all_digits n) h c d in
    (sym (decimal_value m) ∙ ap (reading 0) same ∙ decimal_value n, drop_front (decimal n) x y (ap (λ t. t ++ x) (sym same) ∙ h))

pub one_front-number : (In : ℕ → Type 0) → OneFront (Number In)
one_front-number In a b t u x y s r h d e =
    let same = one_decimal a b x y (ap (λ z. z ++ x) (sym s.digits) ∙ h ∙ ap (λ z. z ++ y) r.digits) d e in
    record { value = same.0; text = s.digits ∙ ap decimal same.0 ∙ sym r.digits; rest = same.1 }

pub has_one-number : (In : ℕ → Type 0) (n : ℕ) → In n → HasOne (Number In)
has_one-number In n h = record { value = n; text = decimal n; spelled = record { is_in = h; digits = refl } }

-- ---- one more digit
pub one_more_digit : (v d : ℕ) → 0 < v → d < 10 → decimal (10 * v + d) ≡ decimal v ++ (48 + d) ∷ []
one_more_digit v d p h =
    decimal_step (10 * v + d) (omega arith) ∙ ap (λ m. decimal m ++ (48 + (10 * v + d) % 10) ∷ []) (omega arith) ∙ ap (λ m. decimal v ++ (48 + m) ∷ []) (omega arith)

-- no number has a 0 in front of other digits
no_leading_zero : (n c : ℕ) (w : List ℕ) → decimal n ≡ 48 ∷ c ∷ w → ⊥
no_leading_zero zero c w h = cons_nil (tail_same (sym (decimal_digit 0 (omega arith)) ∙ h))
  where
    cons_nil : ◌≡◌ {A = List ℕ} [] (c ∷ w) → ⊥
    cons_nil e = cc
no_leading_zero (suc n) c w h =
    let f = first_digit (suc n) (omega arith) in
    let same : f.head ≡ 48 = head_same (sym f.is ∙ h) in
    omega (arith, f.positive)

-- a number that begins with the digits of v and one byte more
pub record Longer (n v c : ℕ) (w : List ℕ) : Type 0 where
  pub digit : is_digit c ≡ true
  pub positive : 0 < v
  pub front : n / 10 ^ length w ≡ 10 * v + (c - 48)

pub longer : (n v c : ℕ) (w : List ℕ) → decimal n ≡ decimal v ++ c ∷ w → Longer n v c w
longer n zero c w h = absurd (no_leading_zero n c w (h ∙ ap (λ t. t ++ c ∷ w) (decimal_digit 0 (omega arith))))
longer n (suc v) c w h =
    let whole = sym (list_all-append is_digit (decimal (suc v)) (c ∷ w)) ∙ ap (list_all is_digit) (sym h) ∙ all_digits n in
    let regrouped : decimal n ≡ (decimal (suc v) ++ c ∷ []) ++ w = h ∙ sym (append_assoc (decimal (suc v)) (c ∷ []) w) in
    record {
      digit = (and_parts _ _ (and_parts _ _ whole).1).0;
      positive = omega arith;
      front = front_value n (decimal (suc v) ++ c ∷ []) w regrouped ∙ reading-append 0 (decimal (suc v)) (c ∷ []) ∙ ap (λ a. 10 * a + (c - 48)) (decimal_value (suc v));
    }

module _ (In : ℕ → Type 0) where
  -- a number of these begins with the digits of v and one byte more: this reaches on
  longer_reaches : (v c : ℕ) → GoesOn (Number In) (decimal v ++ c ∷ []) → (is_digit c ≡ true) × (0 < v) × Reaches In (10 * v + (c - 48))
  longer_reaches v c g =
      let l = longer g.value v c g.tail (sym g.spelled.digits ∙ g.begins ∙ append_assoc (decimal v) (c ∷ []) g.tail) in
      (l.digit, l.positive, record { number = g.value; more = length g.tail; is_in = g.spelled.is_in; begins = l.front })

  -- what was read in front is a number of its own: its text is the front, or goes on behind it
  pub data Other (v : ℕ) (rest : List ℕ) (n : ℕ) : Type 0 where
    here : v ≡ n → NoDigit rest → Other v rest n
    on : (c : ℕ) (cs : List ℕ) → rest ≡ c ∷ cs → GoesOn (Number In) (decimal v ++ c ∷ []) → Other v rest n

  pub other_front : (v n : ℕ) (bytes rest rest' : List ℕ) → bytes ≡ decimal v ++ rest → Reads (Number In) bytes n rest' → Other v rest n
  other_front v n bytes rest rest' w r = by (fronts r.text rest' (decimal v) rest (sym r.whole ∙ w))
    where
      inside : (more : List ℕ) → decimal v ≡ r.text ++ more → rest' ≡ more ++ rest → Other v rest n
      inside [] p q = here (sym (decimal_value v) ∙ ap (reading 0) (p ∙ append-nil r.text ∙ r.spelled.digits) ∙ decimal_value n) (subst NoDigit q r.ends)
      inside (m ∷ ms) p q =
          let digits = and_parts _ _ (sym (list_all-append is_digit r.text (m ∷ ms)) ∙ ap (list_all is_digit) (sym p) ∙ all_digits v) in
          absurd (no_digit_head m (ms ++ rest) rest' q r.ends (and_parts _ _ digits.1).0)

      by : Fronts r.text rest' (decimal v) rest → Other v rest n
      by (within more p q) = inside more p q
      by (beyond c more p q) = on c (more ++ rest') q (record { value = n; text = r.text; tail = more; spelled = r.spelled; begins = p ∙ sym (append_assoc (decimal v) (c ∷ []) more) })

  -- the digits of v go on to a number of these
  pub goes_on_by : (v : ℕ) → 0 < v → Reaches In v → GoesOn (Number In) (decimal v)
  goes_on_by v p r =
      let b = begins r.more r.number v p r.begins in
      record { value = r.number; text = decimal r.number; tail = b.tail; spelled = record { is_in = r.is_in; digits = refl }; begins = b.is }

  pub goes_on_zero : In 0 → GoesOn (Number In) (decimal 0)
  goes_on_zero h = record { value = 0; text = decimal 0; tail = []; spelled = record { is_in = h; digits = refl }; begins = sym (append-nil (decimal 0)) }

  -- a digit with which no number of these goes on
  pub fails_at_digit : (bytes : List ℕ) (v c : ℕ) (cs : List ℕ) → bytes ≡ decimal v ++ c ∷ cs → GoesOn (Number In) (decimal v)
      → is_digit c ≡ true → (0 < v → Reaches In (10 * v + (c - 48)) → ⊥) → Fails (Number In) bytes (length (c ∷ cs))
  fails_at_digit bytes v c cs w g d missing = record {
    front = decimal v;
    rest = c ∷ cs;
    whole = w;
    left_is = refl;
    goes_on = g;
    stops = λ k. let l = longer_reaches v c k in missing l.1 l.2;
    none = λ n rest r. by n (other_front v n bytes (c ∷ cs) rest w r);
  }
    where
      by : (n : ℕ) → Other v (c ∷ cs) n → ⊥
      by n (here e k) = false≢true (sym k ∙ d)
      by n (on b bs e k) =
          let l = longer_reaches v b k in
          let same : b ≡ c = head_same (sym e) in
          missing l.1 (subst (λ z. Reaches In (10 * v + (z - 48))) same l.2)

  -- the digits end before a number of these
  pub fails_at_end : (bytes : List ℕ) (v : ℕ) (rest : List ℕ) → bytes ≡ decimal v ++ rest → GoesOn (Number In) (decimal v) → NoDigit rest → (In v → ⊥)
      → Fails (Number In) bytes (length rest)
  fails_at_end bytes v rest w g d missing = record {
    front = decimal v;
    rest = rest;
    whole = w;
    left_is = refl;
    goes_on = g;
    stops = stop rest d;
    none = λ n rest' r. by n r (other_front v n bytes rest rest' w r);
  }
    where
      stop : (rest : List ℕ) → NoDigit rest → StopsAt (Number In) (decimal v) rest
      stop [] k = tt
      stop (b ∷ bs) k = λ g. false≢true (sym k ∙ (longer_reaches v b g).0)

      by : (n : ℕ) {rest' : List ℕ} (r : Reads (Number In) bytes n rest') → Other v rest n → ⊥
      by n r (here e k) = missing (subst In (sym e) r.spelled.is_in)
      by n r (on b bs e k) = no_digit_head b bs rest e d (longer_reaches v b k).0

  pub reads_number : (bytes : List ℕ) (v : ℕ) (rest : List ℕ) → bytes ≡ decimal v ++ rest → NoDigit rest → In v → Reads (Number In) bytes v rest
  reads_number bytes v rest w d h = record { text = decimal v; spelled = record { is_in = h; digits = refl }; whole = w; ends = d }

  -- ---- the first byte
  -- a number of these that begins with a byte
  first_reaches : (b : ℕ) → GoesOn (Number In) (b ∷ []) → (is_digit b ≡ true) × (b ≡ 48 → In 0) × (48 < b → Reaches In (b - 48))
  first_reaches b g =
      let e : decimal g.value ≡ b ∷ g.tail = sym g.spelled.digits ∙ g.begins in
      let digit = (and_parts _ _ (ap (list_all is_digit) (sym e) ∙ all_digits g.value)).0 in (
        digit,
        λ z. zero_only g.value g.tail (e ∙ ap (λ c. c ∷ g.tail) z) g.spelled.is_in,
        λ p. record { number = g.value; more = length g.tail; is_in = g.spelled.is_in; begins = front_value g.value (b ∷ []) g.tail e ∙ omega arith },
      )
    where
      zero_only : (n : ℕ) (tail : List ℕ) → decimal n ≡ 48 ∷ tail → In n → In 0
      zero_only n [] e h = subst In (sym (decimal_value n) ∙ ap (reading 0) e) h
      zero_only n (c ∷ w) e h = absurd (no_leading_zero n c w e)

  -- the first byte begins no number of these
  pub fails_at_front : (bytes : List ℕ) → HasOne (Number In) → ((b : ℕ) (bs : List ℕ) → bytes ≡ b ∷ bs → is_digit b ≡ true → (b ≡ 48 → In 0) → (48 < b → Reaches In (b - 48)) → ⊥)
      → Fails (Number In) bytes (length bytes)
  fails_at_front bytes one missing = record {
    front = [];
    rest = bytes;
    whole = refl;
    left_is = refl;
    goes_on = record { value = one.value; text = one.text; tail = one.text; spelled = one.spelled; begins = refl };
    stops = stop bytes missing;
    none = λ n rest r. read n rest r (decimal_head n);
  }
    where
      stop : (bytes : List ℕ) → ((b : ℕ) (bs : List ℕ) → bytes ≡ b ∷ bs → is_digit b ≡ true → (b ≡ 48 → In 0) → (48 < b → Reaches In (b - 48)) → ⊥) → StopsAt (Number In) [] bytes
      stop [] m = tt
      stop (b ∷ bs) m = λ g. let f = first_reaches b g in m b bs refl f.0 f.1 f.2

      read : (n : ℕ) (rest : List ℕ) → Reads (Number In) bytes n rest → Head n → ⊥
      read n rest r h =
          let e : r.text ≡ h.head ∷ h.tail = r.spelled.digits ∙ h.is in
          let f = first_reaches h.head (record { value = n; text = r.text; tail = h.tail; spelled = r.spelled; begins = e }) in
          missing h.head (h.tail ++ rest) (r.whole ∙ ap (λ t. t ++ rest) e) f.0 f.1 f.2

-- ---- numbers from low to high
-- what the code tests before it takes a digit
pub window_front : (low high : ℕ) (bytes : List ℕ) (d : ℕ) (rest : List ℕ) → low ≤ high → bytes ≡ (48 + d) ∷ rest → d < 10
    → ((d ≡ 0 → Within low high 0 → ⊥) × (0 < d → Reaches (Within low high) d → ⊥)) → Fails (Number (Within low high)) bytes (length bytes)
window_front low high bytes d rest o w h missing =
    fails_at_front (Within low high) bytes (has_one-number (Within low high) low (record { from_low = omega arith; to_high = o })) (λ b bs e k at_zero more. by b bs e at_zero more (ltb 0 d) refl)
  where
    by : (b : ℕ) (bs : List ℕ) → bytes ≡ b ∷ bs → (b ≡ 48 → Within low high 0) → (48 < b → Reaches (Within low high) (b - 48)) → (t : Bool) → ltb 0 d ≡ t → ⊥
    by b bs e at_zero more true f =
        let same : b ≡ 48 + d = head_same (sym e ∙ w) in
        let p = ltb-true 0 d f in
        missing.1 p (subst (Reaches (Within low high)) (omega arith) (more (omega arith)))
    by b bs e at_zero more false f =
        let same : b ≡ 48 + d = head_same (sym e ∙ w) in
        let z : d ≡ 0 = grind (arith, nat_tests) in
        missing.0 z (at_zero (omega arith))

pub window_no_digit : (low high : ℕ) (bytes : List ℕ) → low ≤ high → NoDigit bytes → Fails (Number (Within low high)) bytes (length bytes)
window_no_digit low high bytes o h =
    fails_at_front (Within low high) bytes (has_one-number (Within low high) low (record { from_low = omega arith; to_high = o })) (λ b bs e k at_zero more. no_digit_head b bs bytes e h k)

-- the digits so far are at most the number that they go on to
pub goes_on_below : (low high v : ℕ) → GoesOn (Number (Within low high)) (decimal v) → v ≤ high
goes_on_below low high v g =
    let e : decimal g.value ≡ decimal v ++ g.tail = sym g.spelled.digits ∙ g.begins in
    let front : g.value / 10 ^ length g.tail ≡ v = front_value g.value (decimal v) g.tail e ∙ decimal_value v in
    let less = div-le_self g.value (10 ^ length g.tail) in
    omega (arith, g.spelled.is_in.to_high)

-- where the code finds that no digit more is right
pub window_digit : (low high : ℕ) (bytes : List ℕ) (v d : ℕ) (rest more : List ℕ) → bytes ≡ decimal v ++ rest → rest ≡ (48 + d) ∷ more → d < 10
    → GoesOn (Number (Within low high)) (decimal v) → (0 < v → Reaches (Within low high) (10 * v + d) → ⊥) → Fails (Number (Within low high)) bytes (length rest)
window_digit low high bytes v d rest more w e h g missing =
    subst (λ n. Fails (Number (Within low high)) bytes n) (sym (ap length e))
    (fails_at_digit (Within low high) bytes v (48 + d) more (w ∙ ap (λ t. decimal v ++ t) e) g (and_from _ _ (le-leb 48 (48 + d) (omega arith)) (le-leb (48 + d) 57 (omega arith)))
    (λ p r. missing p (subst (λ c. Reaches (Within low high) (10 * v + c)) (omega arith) r)))

pub window_longer : (bytes : List ℕ) (v d w : ℕ) (rest more : List ℕ) → bytes ≡ decimal v ++ rest → rest ≡ (48 + d) ∷ more → d < 10 → 0 < v → w ≡ 10 * v + d → bytes ≡ decimal w ++ more
window_longer bytes v d w rest more a e h p same =
    a ∙ ap (λ t. decimal v ++ t) e ∙ sym (append_assoc (decimal v) ((48 + d) ∷ []) more) ∙ ap (λ t. t ++ more) (sym (one_more_digit v d p h)) ∙ ap (λ n. decimal n ++ more) (sym same)
