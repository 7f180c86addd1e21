-- What is verified.
use Rattle.std.proofs.Common.{◌≡◌, ◌≢◌, ◌↔◌, ◌∙◌, ℕ, List, [], ◌∷◌, refl, sym, ap, inl, inr, arith}
use Rattle.std.specs.Prelude.{Option}
use Rattle.proof_check.specs.declared.checked.Checked.{Checked}
use Rattle.proof_check.specs.declared.checked.Checked.TheVariants.{Faulty, TooMany, SaturatedList, BadText, RefusedStep, Verified}
use Rattle.proof_check.specs.Checks.{Finds, IsProved}
use Rattle.beagle_top.specs.Answer.{Checks, Ends, EndsBy, found_status}
use Rattle.beagle_top.specs.Texts.{found, too_long, verified}
use Rattle.beagle_top.specs.Meaning.{IsVerified}

-- ---- statuses
status_zero : (c : Checked) → found_status c ≡ 0 → c ≡ Verified
status_zero (Faulty r) e = absurd (omega (arith, e))
status_zero (TooMany n) e = absurd (omega (arith, e))
status_zero SaturatedList e = absurd (omega (arith, e))
status_zero (BadText n) e = absurd (omega (arith, e))
status_zero (RefusedStep n) e = absurd (omega (arith, e))
status_zero Verified e = refl

abbrev pub Exactly : Type 0
Exactly = (bytes : List ℕ) (c : Checked) → Finds bytes c → (c ≡ Verified) ↔ IsProved bytes

module _ (exactly : Exactly) (bytes asked : List ℕ) (s : ℕ) (text : List ℕ) where
  -- a check that is due ends as verified where something is proved, and nowhere else
  zero_proved : Checks bytes asked s text → s ≡ 0 → IsVerified bytes
  zero_proved (inl long) zero = let three = long.1.status_is in absurd (omega (arith, zero, three))
  zero_proved (inr (few, check)) zero = record {
    within = few;
    proved = (exactly bytes check.checked check.finds).0 (status_zero check.checked (sym check.status_is ∙ zero));
  }

  proved_zero : Checks bytes asked s text → IsVerified bytes → s ≡ 0
  proved_zero (inl long) is = let over = long.0 in let few = is.within in absurd (omega (arith, over, few))
  proved_zero (inr (few, check)) is =
      check.status_is ∙ ap found_status ((exactly bytes check.checked check.finds).1 is.proved)

  pub status_exactly : Checks bytes asked s text → (s ≡ 0) ↔ IsVerified bytes
  status_exactly due = (zero_proved due, proved_zero due)

-- ---- lines
-- the third byte of a line
abbrev third : List ℕ → ℕ
third [] = 0
third (a ∷ []) = 0
third (a ∷ b ∷ []) = 0
third (a ∷ b ∷ c ∷ cs) = c

line_of : (c : Checked) → found c ≡ verified → c ≡ Verified
line_of (Faulty r) e = let t : 114 ≡ 118 = ap third e in absurd (omega (arith, t))
line_of (TooMany n) e = let t : 114 ≡ 118 = ap third e in absurd (omega (arith, t))
line_of SaturatedList e = let t : 114 ≡ 118 = ap third e in absurd (omega (arith, t))
line_of (BadText n) e = let t : 98 ≡ 118 = ap third e in absurd (omega (arith, t))
line_of (RefusedStep n) e = let t : 114 ≡ 118 = ap third e in absurd (omega (arith, t))
line_of Verified e = refl

long_line : too_long ≡ verified → ⊥
long_line e = let t : 114 ≡ 118 = ap third e in absurd (omega (arith, t))

module _ (bytes asked : List ℕ) (s : ℕ) (text : List ℕ) where
  zero_line : Checks bytes asked s text → s ≡ 0 → text ≡ verified
  zero_line (inl long) zero = let three = long.1.status_is in absurd (omega (arith, zero, three))
  zero_line (inr (few, check)) zero = check.text_is ∙ ap found (status_zero check.checked (sym check.status_is ∙ zero))

  line_zero : Checks bytes asked s text → text ≡ verified → s ≡ 0
  line_zero (inl long) e = absurd (long_line (sym long.1.text_is ∙ e))
  line_zero (inr (few, check)) e = check.status_is ∙ ap found_status (line_of check.checked (sym check.text_is ∙ e))

  pub line_exactly : Checks bytes asked s text → (s ≡ 0) ↔ (text ≡ verified)
  line_exactly due = (zero_line due, line_zero due)

-- ---- ends
abbrev pub Law : Type 0
Law = (bytes asked : List ℕ) (s : ℕ) (text : List ℕ) → Checks bytes asked s text → (s ≡ 0) ↔ IsVerified bytes

-- a run that has written the whole text ends with its status
same_status : (s : ℕ) (text : List ℕ) (before after : Option (List ℕ)) (result : ℕ) → result ≢ 6 → Ends s text before after result → result ≡ s
same_status s text before after result not (inl whole) = whole.status_is
same_status s text before after result not (inr cut) = absurd (not cut.status_is)

-- a check ends as verified where something is proved, and nowhere else
pub ends_verified : Law → (bytes : List ℕ) (before after : Option (List ℕ)) (m n : List ℕ) (result : ℕ) → result ≢ 6
    → EndsBy (Checks bytes) before after m n result → (result ≡ 0) ↔ IsVerified bytes
ends_verified law bytes before after m n result not e =
    let same : result ≡ e.status = same_status e.status e.text before after result not e.ends in
    let exactly = law bytes e.asked e.status e.text e.due in
    ((λ zero. exactly.0 (sym same ∙ zero)), (λ is. same ∙ exactly.1 is))
