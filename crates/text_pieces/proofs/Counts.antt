-- Counts of any size.
use Rattle.std.proofs.Common.{◌≡◌, ℕ, ◌+◌, ◌*◌, ◌<◌, List, [], ◌∷◌, ◌++◌, length, refl, sym, ap, subst, ◌∙◌, append-nil, arith}
use Rattle.std.proofs.lemmas.Bool.{and_from, le-leb}
use Rattle.text_pieces.specs.Decimals.{decimal}
use Rattle.text_pieces.specs.Languages.{NoDigit, GoesOn, Fails}
use Rattle.text_pieces.specs.Numbers.{Number, Any, IsCount, ReadsCount}
use Rattle.text_pieces.proofs.Digits.{decimal_digit}
use Rattle.text_pieces.proofs.Reaching.{fails_at_front, fails_at_digit, reads_number, has_one-number, no_digit_head, window_longer}

-- so far
pub record CountSo (text : List ℕ) (count : ℕ) (rest : List ℕ) : Type 0 where
  pub number : ℕ
  pub is : IsCount count number
  pub whole : text ≡ decimal number ++ rest

pub count_missing : (text : List ℕ) → NoDigit text → Fails (Number Any) text (length text)
count_missing text h = fails_at_front Any text (has_one-number Any 0 tt) (λ b bs e k z more. no_digit_head b bs text e h k)

pub count_first : (text : List ℕ) (d count : ℕ) (rest : List ℕ) → text ≡ (48 + d) ∷ rest → d < 10 → count ≡ d → CountSo text count rest
count_first text d count rest e h same = record {
  number = d;
  is = omega (arith, same);
  whole = e ∙ ap (λ t. t ++ rest) (sym (decimal_digit d h));
}

goes_on_any : (n : ℕ) → GoesOn (Number Any) (decimal n)
goes_on_any n = record { value = n; text = decimal n; tail = []; spelled = record { is_in = tt; digits = refl }; begins = sym (append-nil (decimal n)) }

pub count_stops : (text : List ℕ) (count d : ℕ) (rest more : List ℕ) → CountSo text count rest → rest ≡ (48 + d) ∷ more → d < 10 → count ≡ 0 → Fails (Number Any) text (length rest)
count_stops text count d rest more s e h zero_is =
    let none : s.number ≡ 0 = omega (arith, s.is) in
    subst (λ n. Fails (Number Any) text n) (sym (ap length e))
    (fails_at_digit Any text s.number (48 + d) more (s.whole ∙ ap (λ t. decimal s.number ++ t) e) (goes_on_any s.number)
    (and_from _ _ (le-leb 48 (48 + d) (omega arith)) (le-leb (48 + d) 57 (omega arith)))
    (λ p r. absurd (omega (arith, none))))

pub count_longer : (text : List ℕ) (count longer d : ℕ) (rest more : List ℕ) → CountSo text count rest → rest ≡ (48 + d) ∷ more → d < 10 → (count ≡ 0 → ⊥)
    → ((n : ℕ) → IsCount count n → IsCount longer (10 * n + d)) → CountSo text longer more
count_longer text count longer d rest more s e h positive next =
    record {
      number = 10 * s.number + d;
      is = next s.number s.is;
      whole = window_longer text s.number d (10 * s.number + d) rest more s.whole e h (omega (arith, s.is, positive)) refl;
    }

pub count_read : (text : List ℕ) (count : ℕ) (rest : List ℕ) → CountSo text count rest → NoDigit rest → ReadsCount text count rest
count_read text count rest s d = record { number = s.number; is = s.is; reads = reads_number Any text s.number rest s.whole d tt }
