-- The statuses of a run.
use Rattle.std.proofs.Common.{◌≡◌, ◌≢◌, ◌⊎◌, ◌∙◌, ℕ, zero, suc, refl, sym, inl, inr, arith, subst}
use Rattle.proof_check.specs.declared.checked.Checked.{Checked}
use Rattle.proof_check.specs.declared.checked.Checked.TheVariants.{Faulty, TooMany, SaturatedList, BadText, RefusedStep, Verified}
use Rattle.beagle_top.specs.Answer.{IsDue, IsStatus, IsCheckStatus, found_status}

pub by_due : (s r : ℕ) (P : Type 0) → IsDue s → (r ≡ s) ⊎ ((r ≡ 6) × P) → IsStatus r
by_due s r P due (inr six) = (6, (omega arith), sym six.0)
by_due s r P (inl none) (inl same) = (0, (omega arith), sym (same ∙ none))
by_due s r P (inr (inl one)) (inl same) = (1, (omega arith), sym (same ∙ one))
by_due s r P (inr (inr (inl two))) (inl same) = (2, (omega arith), sym (same ∙ two))
by_due s r P (inr (inr (inr three))) (inl same) = (3, (omega arith), sym (same ∙ three))

pub by_usage : (r : ℕ) (P : Type 0) → (r ≡ 4) ⊎ ((r ≡ 6) × P) → IsStatus r
by_usage r P (inr six) = (6, (omega arith), sym six.0)
by_usage r P (inl four) = (4, (omega arith), sym four)

-- want of memory, and a fault of the source
pub memory : IsStatus 7
memory = (7, (omega arith), refl)

pub read_fault : IsStatus 5
read_fault = (5, (omega arith), refl)

-- ---- proofs
-- a proof doesn't end as a refused derivation
pub not_eight : (s r : ℕ) (P : Type 0) → IsDue s → (r ≡ s) ⊎ ((r ≡ 6) × P) → r ≢ 8
not_eight s r P due (inr six) e = let is = six.0 in absurd (omega (arith, is, e))
not_eight s r P (inl none) (inl same) e = absurd (omega (arith, none, same, e))
not_eight s r P (inr (inl one)) (inl same) e = absurd (omega (arith, one, same, e))
not_eight s r P (inr (inr (inl two))) (inl same) e = absurd (omega (arith, two, same, e))
not_eight s r P (inr (inr (inr three))) (inl same) e = absurd (omega (arith, three, same, e))

-- ---- checks
-- the status of what a check finds
pub of_found : (c : Checked) → IsCheckStatus (found_status c)
of_found (Faulty r) = (1, (omega arith), refl)
of_found (TooMany n) = (1, (omega arith), refl)
of_found SaturatedList = (1, (omega arith), refl)
of_found (BadText n) = (5, (omega arith), refl)
of_found (RefusedStep n) = (5, (omega arith), refl)
of_found Verified = (0, (omega arith), refl)

pub by_found : (c : Checked) (s r : ℕ) (P : Type 0) → s ≡ found_status c → (r ≡ s) ⊎ ((r ≡ 6) × P) → IsCheckStatus r
by_found c s r P is (inl same) = subst IsCheckStatus (sym (same ∙ is)) (of_found c)
by_found c s r P is (inr six) = (3, (omega arith), sym six.0)

-- that of a check that ends with the refusal of too many bytes
pub by_long : (r : ℕ) (P : Type 0) → (r ≡ 3) ⊎ ((r ≡ 6) × P) → IsCheckStatus r
by_long r P (inl three) = (1, (omega arith), sym three)
by_long r P (inr six) = (3, (omega arith), sym six.0)

-- the statuses of a check are statuses of a run
pub of_check : (r : ℕ) → IsCheckStatus r → IsStatus r
of_check r (zero, l, e) = (0, (omega arith), e)
of_check r (suc zero, l, e) = (3, (omega arith), e)
of_check r (suc (suc zero), l, e) = (5, (omega arith), e)
of_check r (suc (suc (suc zero)), l, e) = (6, (omega arith), e)
of_check r (suc (suc (suc (suc zero))), l, e) = (7, (omega arith), e)
of_check r (suc (suc (suc (suc (suc zero)))), l, e) = (8, (omega arith), e)
of_check r (suc (suc (suc (suc (suc (suc n))))), l, e) = absurd (omega (arith, l))

-- no check is wrong usage
pub not_four : (r : ℕ) → IsCheckStatus r → r ≢ 4
not_four r (zero, l, e) four = let z : 0 ≡ r = e in absurd (omega (arith, z, four))
not_four r (suc zero, l, e) four = let z : 3 ≡ r = e in absurd (omega (arith, z, four))
not_four r (suc (suc zero), l, e) four = let z : 5 ≡ r = e in absurd (omega (arith, z, four))
not_four r (suc (suc (suc zero)), l, e) four = let z : 6 ≡ r = e in absurd (omega (arith, z, four))
not_four r (suc (suc (suc (suc zero))), l, e) four = let z : 7 ≡ r = e in absurd (omega (arith, z, four))
not_four r (suc (suc (suc (suc (suc zero)))), l, e) four = let z : 8 ≡ r = e in absurd (omega (arith, z, four))
not_four r (suc (suc (suc (suc (suc (suc n))))), l, e) four = absurd (omega (arith, l))
