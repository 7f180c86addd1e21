-- Sums and products of saturated numbers.
use Rattle.std.proofs.Common.{◌≡◌, ℕ, zero, suc, ◌+◌, ◌*◌, ◌<◌, ◌≤◌, min, inl, inr, refl, arith}
use Rattle.std.proofs.lemmas.Bool.{cases_lt}
use Rattle.std.proofs.Math.Nat.{mul-le-mul, mul_comm}
use Rattle.normal_form.specs.Count.{saturated}

min_sum : (m a b : ℕ) → min (min a m + min b m) m ≡ min (a + b) m
min_sum m a b = omega arith

min_small : (m a : ℕ) → a ≤ m → min a m ≡ a
min_small m a h = omega arith

-- where a product is at least m both ways
same_min : (m x y : ℕ) → m ≤ x → m ≤ y → min x m ≡ min y m
same_min m x y h k = omega arith

times_positive : (m a b : ℕ) → m ≤ a → 0 < b → m ≤ a * b
times_positive m a b h k = let e : m * 1 ≤ a * b = mul-le-mul h k in grind arith

zero_min : (m : ℕ) → min 0 m ≡ 0
zero_min m = omega arith

min_product : (m a b : ℕ) → 0 < m → min (min a m * min b m) m ≡ min (a * b) m
min_product m zero b h = rw (zero_min m) (first_of (omega arith, grind arith))
min_product m (suc a) zero h = grind arith
min_product m (suc a) (suc b) h = elim (cases_lt m (suc a)) [
  | inl p ↦ same_min m _ _ (times_positive m (min (suc a) m) (min (suc b) m) (omega arith) (omega arith)) (times_positive m (suc a) (suc b) (omega arith) (omega arith))
  | inr p ↦ elim (cases_lt m (suc b)) [
    | inl q ↦ same_min m _ _ (rw mul_comm (times_positive m (min (suc b) m) (min (suc a) m) (omega arith) (omega arith))) (rw mul_comm (times_positive m (suc b) (suc a) (omega arith) (omega arith)))
    | inr q ↦ rw (min_small m (suc a) p, min_small m (suc b) q) refl
  ]
]

pub saturated_sum : (a b : ℕ) → saturated (saturated a + saturated b) ≡ saturated (a + b)
saturated_sum a b = min_sum _ a b

pub saturated_product : (a b : ℕ) → saturated (saturated a * saturated b) ≡ saturated (a * b)
saturated_product a b = min_product _ a b (omega arith)

-- the two implications of an equivalence, as counted
pub equivalence_sum : (a b c d : ℕ) → saturated (saturated (saturated b * saturated c) + saturated (saturated d * saturated a)) ≡ saturated (b * c + d * a)
equivalence_sum a b c d = rw (saturated_product b c, saturated_product d a) (saturated_sum (b * c) (d * a))

pub equivalence_product : (a b c d : ℕ) → saturated (saturated (saturated a + saturated d) * saturated (saturated c + saturated b)) ≡ saturated ((a + d) * (c + b))
equivalence_product a b c d = rw (saturated_sum a d, saturated_sum c b) (saturated_product (a + d) (c + b))
