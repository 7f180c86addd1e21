-- Numbers with a sign.
use Rattle.std.proofs.Common.{◌≡◌, ℕ, zero, suc, ◌-◌, ◌^◌, ◌<◌, max, List, [], ◌∷◌, ◌++◌, ℤ, pos, negsuc, neg_ℤ, refl, sym, ap, ◌∙◌, append-nil, arith}
use Rattle.text_pieces.specs.Decimals.{decimal}
use Rattle.text_pieces.specs.Languages.{Reads, StopsAt, Fails}
use Rattle.text_pieces.specs.Numbers.{Number, Within, Signed, Signed128}
use Rattle.text_pieces.proofs.Digits.{digit_below}
use Rattle.text_pieces.proofs.Joining.{head_same, tail_same}
use Rattle.text_pieces.proofs.Reaching.{decimal_head, one_decimal}
use Rattle.text_pieces.specs.Unambiguous.{HasOne, OneFront}

-- no digits begin with a minus
no_minus : (n : ℕ) (x more : List ℕ) → decimal n ++ x ≡ 45 ∷ more → ⊥
no_minus n x more h =
    let d = decimal_head n in
    let same : d.head ≡ 45 = head_same (sym (ap (λ t. t ++ x) d.is) ∙ h) in
    let low = digit_below d.head d.digit in
    omega (arith, low.0, same)

abbrev tail_of : List ℕ → List ℕ
tail_of [] = []
tail_of (b ∷ bs) = bs

module _ (least : ℕ) where
  abbrev Minus : ℕ → List ℕ → Type 0
  Minus = Number (Within (max least 1) (2 ^ 127))

  abbrev Plain : ℕ → List ℕ → Type 0
  Plain = Number (Within least (2 ^ 127 - 1))

  abbrev Whole : ℤ → List ℕ → Type 0
  Whole = Signed (Signed128 least)

  -- ---- behind a minus
  record Below (digits : List ℕ) : Type 0 where
    value : ℤ
    spelled : Whole value (45 ∷ digits)

  below : (n : ℕ) (digits : List ℕ) → Minus n digits → Below digits
  below zero digits s = absurd (omega (arith, s.is_in.from_low))
  below (suc n) digits s = record { value = negsuc n; spelled = record { is_in = s.is_in; digits = ap (λ t. 45 ∷ t) s.digits } }

  -- a spelling that begins with a minus has a number behind it
  record Behind (xs : List ℕ) (text : List ℕ) : Type 0 where
    number : ℕ
    digits : List ℕ
    is : text ≡ 45 ∷ digits
    spelled : Minus number digits

  behind : (z : ℤ) (text x xs : List ℕ) → Whole z text → text ++ x ≡ 45 ∷ xs → Behind xs text
  behind (pos n) text x xs s h = absurd (no_minus n x xs (ap (λ t. t ++ x) (sym s.digits) ∙ h))
  behind (negsuc n) text x xs s h = record { number = suc n; digits = decimal (suc n); is = s.digits; spelled = record { is_in = s.is_in; digits = refl } }

  pub minus_fails : (bytes digits : List ℕ) (left : ℕ) → bytes ≡ 45 ∷ digits → Fails Minus digits left → Fails Whole bytes left
  minus_fails bytes digits left e f = record {
    front = 45 ∷ f.front;
    rest = f.rest;
    whole = e ∙ ap (λ t. 45 ∷ t) f.whole;
    left_is = f.left_is;
    goes_on =
        let g = f.goes_on in
        let b = below g.value g.text g.spelled in
        record { value = b.value; text = 45 ∷ g.text; tail = g.tail; spelled = b.spelled; begins = ap (λ t. 45 ∷ t) g.begins };
    stops = stop f.rest f.stops;
    none = λ z rest r.
        let b = behind z r.text rest digits r.spelled (sym r.whole ∙ e) in
        f.none b.number rest (record {
          text = b.digits;
          spelled = b.spelled;
          whole = tail_same (sym e ∙ r.whole ∙ ap (λ t. t ++ rest) b.is);
          ends = r.ends;
        });
  }
    where
      stop : (rest : List ℕ) → StopsAt Minus f.front rest → StopsAt Whole (45 ∷ f.front) rest
      stop [] k = tt
      stop (c ∷ cs) k = λ g.
          let b = behind g.value g.text [] ((f.front ++ c ∷ []) ++ g.tail) g.spelled (append-nil g.text ∙ g.begins) in
          k (record { value = b.number; text = b.digits; tail = g.tail; spelled = b.spelled; begins = tail_same (sym b.is ∙ g.begins) })

  pub minus_reads : (bytes digits : List ℕ) (n : ℕ) (rest : List ℕ) → bytes ≡ 45 ∷ digits → Reads Minus digits n rest → Reads Whole bytes (neg_ℤ (pos n)) rest
  minus_reads bytes digits zero rest e r = absurd (omega (arith, r.spelled.is_in.from_low))
  minus_reads bytes digits (suc n) rest e r = record {
    text = 45 ∷ r.text;
    spelled = record { is_in = r.spelled.is_in; digits = ap (λ t. 45 ∷ t) r.spelled.digits };
    whole = e ∙ ap (λ t. 45 ∷ t) r.whole;
    ends = r.ends;
  }

  -- ---- without a minus
  record Above (text : List ℕ) : Type 0 where
    number : ℕ
    spelled : Plain number text

  above : (z : ℤ) (text : List ℕ) → Whole z text → ((more : List ℕ) → text ≡ 45 ∷ more → ⊥) → Above text
  above (pos n) text s missing = record { number = n; spelled = record { is_in = s.is_in; digits = s.digits } }
  above (negsuc n) text s missing = absurd (missing (decimal (suc n)) s.digits)

  -- what the bytes begin with
  front_minus : (front more tail cs : List ℕ) (c : ℕ) → (front ++ c ∷ []) ++ tail ≡ 45 ∷ more → front ++ c ∷ cs ≡ 45 ∷ (tail_of (front ++ c ∷ cs))
  front_minus [] more tail cs c h = ap (λ d. d ∷ cs) (head_same h)
  front_minus (d ∷ front) more tail cs c h = ap (λ e. e ∷ (front ++ c ∷ cs)) (head_same h)

  pub plain_fails : (bytes : List ℕ) (left : ℕ) → ((more : List ℕ) → bytes ≡ 45 ∷ more → ⊥) → Fails Plain bytes left → Fails Whole bytes left
  plain_fails bytes left missing f = record {
    front = f.front;
    rest = f.rest;
    whole = f.whole;
    left_is = f.left_is;
    goes_on = let g = f.goes_on in record { value = pos g.value; text = g.text; tail = g.tail; spelled = record { is_in = g.spelled.is_in; digits = g.spelled.digits }; begins = g.begins };
    stops = stop f.rest f.whole f.stops;
    none = λ z rest r.
        let a = above z r.text r.spelled (λ more e. missing (more ++ rest) (r.whole ∙ ap (λ t. t ++ rest) e)) in
        f.none a.number rest (record { text = r.text; spelled = a.spelled; whole = r.whole; ends = r.ends });
  }
    where
      stop : (rest : List ℕ) → bytes ≡ f.front ++ rest → StopsAt Plain f.front rest → StopsAt Whole f.front rest
      stop [] w k = tt
      stop (c ∷ cs) w k = λ g.
          let a = above g.value g.text g.spelled (λ more e. missing (tail_of (f.front ++ c ∷ cs)) (w ∙ front_minus f.front more g.tail cs c (sym g.begins ∙ e))) in
          k (record { value = a.number; text = g.text; tail = g.tail; spelled = a.spelled; begins = g.begins })

  pub plain_reads : (bytes : List ℕ) (n : ℕ) (rest : List ℕ) → Reads Plain bytes n rest → Reads Whole bytes (pos n) rest
  plain_reads bytes n rest r = record { text = r.text; spelled = record { is_in = r.spelled.is_in; digits = r.spelled.digits }; whole = r.whole; ends = r.ends }

  -- ---- in front of the same bytes
  pub one_front-signed : OneFront Whole
  one_front-signed (pos m) (pos n) t u x y s r h d e =
      let same = one_decimal m n x y (ap (λ z. z ++ x) (sym s.digits) ∙ h ∙ ap (λ z. z ++ y) r.digits) d e in
      record { value = ap pos same.0; text = s.digits ∙ ap decimal same.0 ∙ sym r.digits; rest = same.1 }
  one_front-signed (pos m) (negsuc n) t u x y s r h d e = absurd (no_minus m x (decimal (suc n) ++ y) (ap (λ z. z ++ x) (sym s.digits) ∙ h ∙ ap (λ z. z ++ y) r.digits))
  one_front-signed (negsuc m) (pos n) t u x y s r h d e = absurd (no_minus n y (decimal (suc m) ++ x) (ap (λ z. z ++ y) (sym r.digits) ∙ sym h ∙ ap (λ z. z ++ x) s.digits))
  one_front-signed (negsuc m) (negsuc n) t u x y s r h d e =
      let same = one_decimal (suc m) (suc n) x y (tail_same (ap (λ z. z ++ x) (sym s.digits) ∙ h ∙ ap (λ z. z ++ y) r.digits)) d e in
      let number : m ≡ n = omega (arith, same.0) in
      record { value = ap negsuc number; text = s.digits ∙ ap (λ k. 45 ∷ decimal (suc k)) number ∙ sym r.digits; rest = same.1 }

  pub has_one-signed : least < 2 ^ 64 → HasOne Whole
  has_one-signed h = record { value = pos least; text = decimal least; spelled = record { is_in = record { from_low = omega arith; to_high = omega (arith, h) }; digits = refl } }
