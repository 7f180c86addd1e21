-- Texts put one behind the other.
use Rattle.std.proofs.Common.{◌≡◌, ℕ, zero, suc, ◌+◌, ◌%◌, ◌^◌, ◌<◌, ◌≤◌, ℤ, pos, negsuc, List, [], ◌∷◌, ◌++◌, length, take, get_or, refl, sym, ap, subst, ◌∙◌, append_assoc, append-nil, arith, FitsSigned}
use Rattle.std.specs.Prelude.{codes}
use Rattle.std.specs.Int.{w128}
use Rattle.std.proofs.lemmas.Int.{ints}
use Rattle.std.proofs.lemmas.List.{take_more}
use Rattle.std.specs.Fmt.{decimal as fmt_decimal, signed_decimal as fmt_signed}
use Rattle.std.proofs.lemmas.Fmt.{decimal_by_steps_wide}
use Rattle.text_pieces.proofs.Digits.{decimal_digit, decimal_step}
use Rattle.text_pieces.specs.Decimals.{decimal, signed_decimal}
use Rattle.text_pieces.specs.Languages.{Cat, Behind, Blank, Image, Times}
use Rattle.text_pieces.specs.Separated.{Tail, Separated}
use Rattle.text_pieces.specs.Numbers.{Number, Any, Signed, Signed128, Counted}
use Rattle.text_pieces.specs.Printing.{Adds}

pub adds-cat : {A B : Type 0} (L : A → List ℕ → Type 0) (M : A → B → List ℕ → Type 0) (a : A) (b : B) (x y z : List ℕ) → Adds L a x y → Adds (M a) b y z → Adds (Cat L M) (a, b) x z
adds-cat L M a b x y z r s = record {
  text = r.text ++ s.text;
  spelled = record { first = r.text; second = s.text; first_spelled = r.spelled; second_spelled = s.spelled; joined = refl };
  is = s.is ∙ ap (λ t. t ++ s.text) r.is ∙ append_assoc x r.text s.text;
}

pub adds-number : (In : ℕ → Type 0) (n : ℕ) (x y : List ℕ) → In n → y ≡ x ++ 32 ∷ decimal n → Adds (Blank (Number In)) n x y
adds-number In n x y h e = record { text = 32 ∷ decimal n; spelled = record { behind = decimal n; spelled = record { is_in = h; digits = refl }; joined = refl }; is = e }

pub adds-signed : (In : ℤ → Type 0) (z : ℤ) (x y : List ℕ) → In z → y ≡ x ++ 32 ∷ signed_decimal z → Adds (Blank (Signed In)) z x y
adds-signed In z x y h e = record { text = 32 ∷ signed_decimal z; spelled = record { behind = signed_decimal z; spelled = record { is_in = h; digits = refl }; joined = refl }; is = e }

pub whole_in : (z : ℤ) → FitsSigned w128 z → Signed128 0 z
whole_in (pos n) h = record { from_low = omega arith; to_high = omega (arith, ints, h) }
whole_in (negsuc n) h = record { from_low = omega arith; to_high = omega (arith, ints, h) }

pub coefficient_in : (z : ℤ) → FitsSigned w128 z → (z ≡ pos 0 → ⊥) → Signed128 1 z
coefficient_in (pos zero) h n = absurd (n refl)
coefficient_in (pos (suc k)) h n = record { from_low = omega arith; to_high = omega (arith, ints, h) }
coefficient_in (negsuc k) h n = record { from_low = omega arith; to_high = omega (arith, ints, h) }

-- ---- lists
pub times-snoc : {A : Type 0} (L : A → List ℕ → Type 0) (n : ℕ) (xs : List A) (a : A) (t u : List ℕ) → Times L n xs t → L a u → Times L (suc n) (xs ++ a ∷ []) (t ++ u)
times-snoc L zero [] a t u s r = record { first = u; second = []; first_spelled = r; second_spelled = refl; joined = ap (λ z. z ++ u) s ∙ sym (append-nil u) }
times-snoc L zero (x ∷ xs) a t u s r = absurd s
times-snoc L (suc n) [] a t u s r = absurd s
times-snoc L (suc n) (x ∷ xs) a t u s r = record {
  first = s.first;
  second = s.second ++ u;
  first_spelled = s.first_spelled;
  second_spelled = times-snoc L n xs a s.second u s.second_spelled r;
  joined = ap (λ z. z ++ u) s.joined ∙ append_assoc s.first s.second u;
}

pub adds-none : {A : Type 0} (L : A → List ℕ → Type 0) (x : List ℕ) → Adds (Times L 0) [] x x
adds-none L x = record { text = []; spelled = refl; is = sym (append-nil x) }

pub adds-more : {A : Type 0} (L : A → List ℕ → Type 0) (n : ℕ) (xs : List A) (a : A) (x y z : List ℕ) → Adds (Times L n) xs x y → Adds L a y z → Adds (Times L (n + 1)) (xs ++ a ∷ []) x z
adds-more L n xs a x y z r s =
    let next : suc n ≡ n + 1 = omega arith in
    record {
      text = r.text ++ s.text;
      spelled = subst (λ k. Times L k (xs ++ a ∷ []) (r.text ++ s.text)) next (times-snoc L n xs a r.text s.text r.spelled s.spelled);
      is = s.is ∙ ap (λ t. t ++ s.text) r.is ∙ append_assoc x r.text s.text;
    }

pub adds-counted : {A : Type 0} (L : A → List ℕ → Type 0) (xs : List A) (x y z : List ℕ) → Adds (Blank (Number Any)) (length xs) x y → Adds (Times L (length xs)) xs y z → Adds (Counted L) xs x z
adds-counted {A} L xs x y z r s =
    let c = adds-cat (Blank (Number Any)) (Times L) (length xs) xs x y z r s in
    record { text = c.text; spelled = record { from = (length xs, xs); is = refl; spelled = c.spelled }; is = c.is }

-- ---- std writes the same digits
same_decimal : (n : ℕ) → n < 10 ^ 64 → fmt_decimal n ≡ decimal n
same_decimal n h =
    decimal_by_steps_wide (λ m ds. ds ≡ decimal m) (λ m l. sym (decimal_digit m l)) (λ m ds l e. ap (λ z. z ++ (48 + m % 10) ∷ []) e ∙ sym (decimal_step m l)) n h

pub written_number : (n : ℕ) → n < 2 ^ 128 → fmt_decimal n ≡ decimal n
written_number n h = same_decimal n (omega arith)

pub written_signed : (z : ℤ) → FitsSigned w128 z → fmt_signed z ≡ signed_decimal z
written_signed (pos n) h = written_number n (omega (arith, ints, h))
written_signed (negsuc n) h = ap (λ ds. 45 ∷ ds) (written_number (suc n) (omega (arith, ints, h)))

pub take_whole : {A : Type 0} (n : ℕ) (xs : List A) → length xs ≤ n → take n xs ≡ xs
take_whole zero [] h = refl
take_whole (suc n) [] h = refl
take_whole zero (x ∷ xs) h = absurd (omega arith)
take_whole (suc n) (x ∷ xs) h = ap (λ t. x ∷ t) (take_whole n xs (omega arith))

-- ---- values that are made, and a byte in front
pub adds-image : {A B : Type 0} (f : A → B) (L : A → List ℕ → Type 0) (a : A) (x y : List ℕ) → Adds L a x y → Adds (Image f L) (f a) x y
adds-image f L a x y r = record { text = r.text; spelled = record { from = a; is = refl; spelled = r.spelled }; is = r.is }

pub adds-blank : {A : Type 0} (L : A → List ℕ → Type 0) (a : A) (x y z : List ℕ) → y ≡ x ++ codes " " → Adds L a y z → Adds (Blank L) a x z
adds-blank L a x y z e r = record {
  text = 32 ∷ r.text;
  spelled = record { behind = r.text; spelled = r.spelled; joined = refl };
  is = r.is ∙ ap (λ t. t ++ r.text) e ∙ append_assoc x (codes " ") r.text;
}

-- one more of a list was put
pub adds-item : {A : Type 0} (L : A → List ℕ → Type 0) (xs : List A) (i : ℕ) (a : A) (x y z : List ℕ) → i < length xs → a ≡ get_or xs i a → Adds (Times L i) (take i xs) x y → Adds L a y z → Adds (Times L (i + 1)) (take (i + 1) xs) x z
adds-item L xs i a x y z l e r s =
    let one_more : take (i + 1) xs ≡ take i xs ++ a ∷ [] = take_more xs i a l ∙ ap (λ b. take i xs ++ b ∷ []) (sym e) in
    subst (λ t. Adds (Times L (i + 1)) t x z) (sym one_more) (adds-more L i (take i xs) a x y z r s)

-- and all of it
pub adds-all : {A : Type 0} (L : A → List ℕ → Type 0) (xs : List A) (i : ℕ) (x y : List ℕ) → i ≡ length xs → Adds (Times L i) (take i xs) x y → Adds (Times L (length xs)) xs x y
adds-all L xs i x y e r =
    subst (λ t. Adds (Times L (length xs)) t x y) (take_whole (length xs) xs (omega arith)) (subst (λ n. Adds (Times L n) (take n xs) x y) e r)

-- ---- lists with a byte between
pub adds-behind : {A : Type 0} (byte : ℕ) (L : A → List ℕ → Type 0) (a : A) (x y z : List ℕ) → y ≡ x ++ byte ∷ [] → Adds L a y z → Adds (Behind byte L) a x z
adds-behind byte L a x y z e r = record {
  text = byte ∷ r.text;
  spelled = record { behind = r.text; spelled = r.spelled; joined = refl };
  is = r.is ∙ ap (λ t. t ++ r.text) e ∙ append_assoc x (byte ∷ []) r.text;
}

tail_spelled : {A : Type 0} (L : A → List ℕ → Type 0) (between end : ℕ) (xs : List A) (t : List ℕ) → Times (Behind between L) (length xs) xs t → Tail L between end xs (t ++ end ∷ [])
tail_spelled L between end [] t s = ap (λ z. z ++ end ∷ []) s
tail_spelled L between end (x ∷ xs) t s =
    let b = s.first_spelled in
    record {
      first = b.behind;
      more = s.second ++ end ∷ [];
      first_is = b.spelled;
      more_is = tail_spelled L between end xs s.second s.second_spelled;
      joined = ap (λ z. z ++ end ∷ []) s.joined ∙ append_assoc s.first s.second (end ∷ []) ∙ ap (λ z. z ++ (s.second ++ end ∷ [])) b.joined;
    }

pub adds-separated : {A : Type 0} (L : A → List ℕ → Type 0) (between end : ℕ) (a : A) (more : List A) (w x y z : List ℕ)
    → Adds L a w x → Adds (Times (Behind between L) (length more)) more x y → z ≡ y ++ end ∷ [] → Adds (Separated L between end) (a ∷ more) w z
adds-separated {A} L between end a more w x y z f m e =
    let tail : Adds (Tail L between end) more x z = record {
      text = m.text ++ end ∷ [];
      spelled = tail_spelled L between end more m.text m.spelled;
      is = e ∙ ap (λ t. t ++ end ∷ []) m.is ∙ append_assoc x m.text (end ∷ []);
    } in
    adds-image (λ (p : A × List A). p.0 ∷ p.1) (Cat L (λ first. Tail L between end)) (a, more) w z (adds-cat L (λ first. Tail L between end) a more w x z f tail)
