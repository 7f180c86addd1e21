-- Where an answer behind a problem is cut off.
use Rattle.std.proofs.Common.{◌≡◌, ◌<◌, ◌++◌, ℕ, zero, suc, Bool, true, false, cond, List, [], ◌∷◌, take, drop, length, slice_index, refl, ap, arith}
use Rattle.std.specs.Prelude.{nat_eq, ◌&&◌}
use Rattle.proof_check.specs.Sections.{before_answer, begins_answer}

-- a byte that begins no answer stays before it
pub passed : (begins_line : Bool) (bs : List ℕ) (p : ℕ) → p < length bs → (begins_line && begins_answer (drop p bs)) ≡ false
    → take p bs ++ before_answer begins_line (drop p bs) ≡ take (suc p) bs ++ before_answer (nat_eq (slice_index bs p) 10) (drop (suc p) bs)
passed begins_line [] p within none = absurd (omega arith)
passed begins_line (b ∷ bs) zero within none =
    ap (λ t. cond {A = List ℕ} t [] (b ∷ before_answer (nat_eq b 10) bs)) none
passed begins_line (b ∷ bs) (suc p) within none = ap (λ rest. b ∷ rest) (passed begins_line bs p (omega arith) none)

-- where an answer begins, nothing more is before it
pub stopped : (bs : List ℕ) (p : ℕ) → p < length bs → begins_answer (drop p bs) ≡ true → take p bs ++ before_answer true (drop p bs) ≡ take p bs
stopped [] p within begins = absurd (omega arith)
stopped (b ∷ bs) zero within begins = ap (λ t. cond {A = List ℕ} t [] (b ∷ before_answer (nat_eq b 10) bs)) begins
stopped (b ∷ bs) (suc p) within begins = ap (λ rest. b ∷ rest) (stopped bs p (omega arith) begins)

-- where no byte is left, nothing was cut off
pub uncut : (begins_line : Bool) (bs : List ℕ) (p : ℕ) → p ≡ length bs → take p bs ++ before_answer begins_line (drop p bs) ≡ bs
uncut begins_line [] zero end = refl
uncut begins_line [] (suc p) end = absurd (omega arith)
uncut begins_line (b ∷ bs) zero end = absurd (omega arith)
uncut begins_line (b ∷ bs) (suc p) end = ap (λ rest. b ∷ rest) (uncut begins_line bs p (omega arith))
