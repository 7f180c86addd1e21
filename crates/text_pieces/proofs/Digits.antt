-- Decimal digits.
use Rattle.std.proofs.Common.{◌≡◌, ℕ, zero, suc, ◌+◌, ◌-◌, ◌*◌, ◌/◌, ◌%◌, ◌^◌, ◌<◌, ◌≤◌, Bool, true, false, cond, ltb, List, [], ◌∷◌, ◌++◌, length, refl, sym, ap, ◌∙◌, lit<, append_assoc, append-nil, arith, nat_le}
use Rattle.std.proofs.Math.Nat.{pow-suc, add-mul, mul_assoc, mul_comm, mul-le-mul_right, div-div-eq-div-mul, zero-div}
use Rattle.std.proofs.lemmas.Nat.{div-mul-add}
use Rattle.std.proofs.lemmas.List.Folds.{list_all-append}
use Rattle.std.proofs.lemmas.Bool.{ltb-true, and_parts, and_from}
use Rattle.std.proofs.lemmas.Bool.Decides.{nat_tests}
use Rattle.std.specs.List.{list_all}
use Rattle.text_pieces.specs.Decimals.{is_digit, decimal_by, decimal}

-- ---- enough digits are as good as more
pub small_digit : (k n : ℕ) → n < 10 → decimal_by (suc k) n ≡ (48 + n) ∷ []
small_digit k n h = grind (arith, nat_tests)

pub large_digits : (k n : ℕ) → 10 ≤ n → decimal_by (suc k) n ≡ decimal_by k (n / 10) ++ (48 + n % 10) ∷ []
large_digits k n h = grind (arith, nat_tests)

tenth : (k n : ℕ) → n < 10 ^ suc k → n / 10 < 10 ^ k
tenth k n h = let e = pow-suc 10 k in omega arith

not_tiny : (n : ℕ) → n < 10 ^ zero → n < 10
not_tiny n h = omega arith

pub enough : (k j n : ℕ) → n < 10 ^ k → n < 10 ^ j → 0 < k → 0 < j → decimal_by k n ≡ decimal_by j n
enough zero j n h i a b = absurd (omega arith)
enough (suc k) zero n h i a b = absurd (omega arith)
enough (suc k) (suc j) n h i a b = by (ltb n 10) refl (λ (p : 0 < k) (q : 0 < j). enough k j (n / 10) (tenth k n h) (tenth j n i) p q)
  where
    positive : (m : ℕ) → 10 ≤ n → n < 10 ^ suc m → 0 < m
    positive zero l e = absurd (omega (arith, pow-suc 10 zero))
    positive (suc m) l e = omega arith

    by : (t : Bool) → ltb n 10 ≡ t → (0 < k → 0 < j → decimal_by k (n / 10) ≡ decimal_by j (n / 10)) → decimal_by (suc k) n ≡ decimal_by (suc j) n
    by true e again = let l = ltb-true n 10 e in small_digit k n l ∙ sym (small_digit j n l)
    by false e again =
        let l : 10 ≤ n = grind (arith, nat_tests) in
        large_digits k n l ∙ ap (λ ds. ds ++ (48 + n % 10) ∷ []) (again (positive k l h) (positive j l i)) ∙ sym (large_digits j n l)

pub below_power : (n : ℕ) → n < 10 ^ n
below_power zero = lit< tt
below_power (suc n) = let e = pow-suc 10 n in omega (arith, below_power n)

pub below_next : (n : ℕ) → n < 10 ^ suc n
below_next n = let e = pow-suc 10 n in omega (arith, below_power n)

pub decimal_digit : (n : ℕ) → n < 10 → decimal n ≡ (48 + n) ∷ []
unfolding decimal
decimal_digit n h = small_digit n n h

pub decimal_step : (n : ℕ) → 10 ≤ n → decimal n ≡ decimal (n / 10) ++ (48 + n % 10) ∷ []
unfolding decimal
decimal_step n h =
    large_digits n n h ∙ ap (λ ds. ds ++ (48 + n % 10) ∷ []) (enough n (suc (n / 10)) (n / 10) (omega (arith, below_power n)) (below_next (n / 10)) (omega arith) (omega arith))

-- ---- every byte is a digit
abbrev pub AllDigits : List ℕ → Type 0
AllDigits ds = list_all is_digit ds ≡ true

digit_is : (d : ℕ) → d < 10 → is_digit (48 + d) ≡ true
digit_is d h = grind (arith, nat_tests)

pub digit_below : (b : ℕ) → is_digit b ≡ true → (48 ≤ b) × (b < 58)
digit_below b h =
    let e = and_parts (nat_le 48 b) (nat_le b 57) h in
    let l : 48 ≤ b = grind (arith, nat_tests) in
    let u : b ≤ 57 = grind (arith, nat_tests) in
    (l, omega arith)

pub all_digits_by : (k n : ℕ) → AllDigits (decimal_by k n)
all_digits_by zero n = refl
all_digits_by (suc k) n = by (ltb n 10) refl (all_digits_by k (n / 10))
  where
    by : (t : Bool) → ltb n 10 ≡ t → AllDigits (decimal_by k (n / 10)) → AllDigits (cond t ((48 + n) ∷ []) (decimal_by k (n / 10) ++ (48 + n % 10) ∷ []))
    by true e h = and_from _ _ (digit_is n (ltb-true n 10 e)) refl
    by false e h = list_all-append is_digit (decimal_by k (n / 10)) ((48 + n % 10) ∷ []) ∙ and_from _ _ h (and_from _ _ (digit_is (n % 10) (omega arith)) refl)

pub all_digits : (n : ℕ) → AllDigits (decimal n)
unfolding decimal
all_digits n = all_digits_by (suc n) n

-- ---- the number that is read
-- the number with these digits behind it
abbrev pub reading : ℕ → List ℕ → ℕ
reading a [] = a
reading a (b ∷ bs) = reading (10 * a + (b - 48)) bs

pub reading-append : (a : ℕ) (xs ys : List ℕ) → reading a (xs ++ ys) ≡ reading (reading a xs) ys
reading-append a [] ys = refl
reading-append a (x ∷ xs) ys = reading-append (10 * a + (x - 48)) xs ys

-- digits behind a number: so many tens, and less than one more
pub record Scaled (a : ℕ) (ys : List ℕ) : Type 0 where
  pub low : ℕ
  pub below : low < 10 ^ length ys
  pub is : reading a ys ≡ a * 10 ^ length ys + low

pub scaled : (a : ℕ) (ys : List ℕ) → AllDigits ys → Scaled a ys
scaled a [] h = record { low = 0; below = lit< tt; is = omega arith }
scaled a (y ∷ ys) h =
    let parts = and_parts (is_digit y) (list_all is_digit ys) h in
    let digit = digit_below y parts.0 in
    let next = scaled (10 * a + (y - 48)) ys parts.1 in
    let p = 10 ^ length ys in
    let power : 10 ^ suc (length ys) ≡ p * 10 = pow-suc 10 (length ys) in
    let split : (10 * a + (y - 48)) * p ≡ 10 * a * p + (y - 48) * p = add-mul (10 * a) (y - 48) p in
    let shift : 10 * a * p ≡ a * (p * 10) = ap (λ z. z * p) (mul_comm 10 a) ∙ mul_assoc a 10 p ∙ ap (λ z. a * z) (mul_comm 10 p) in
    let most : (y - 48) * p ≤ 9 * p = mul-le-mul_right p (omega arith) in
    record {
      low = (y - 48) * p + next.low;
      below = omega (arith, next.below);
      is = next.is ∙ omega (arith, ap (λ z. a * z) power);
    }

pub value_by : (k n : ℕ) → n < 10 ^ k → reading 0 (decimal_by k n) ≡ n
value_by zero n h = omega arith
value_by (suc k) n h = by (ltb n 10) refl (value_by k (n / 10) (tenth k n h))
  where
    by : (t : Bool) → ltb n 10 ≡ t → reading 0 (decimal_by k (n / 10)) ≡ n / 10 → reading 0 (cond t ((48 + n) ∷ []) (decimal_by k (n / 10) ++ (48 + n % 10) ∷ [])) ≡ n
    by true e i = omega arith
    by false e i = reading-append 0 (decimal_by k (n / 10)) ((48 + n % 10) ∷ []) ∙ ap (λ a. 10 * a + ((48 + n % 10) - 48)) i ∙ omega arith

pub decimal_value : (n : ℕ) → reading 0 (decimal n) ≡ n
unfolding decimal
decimal_value n = value_by (suc n) n (below_next n)

-- what stands behind a front of the digits
pub front_value : (n : ℕ) (ds tail : List ℕ) → decimal n ≡ ds ++ tail → n / 10 ^ length tail ≡ reading 0 ds
front_value n ds tail h =
    let digits = and_parts _ _ (sym (list_all-append is_digit ds tail) ∙ ap (list_all is_digit) (sym h) ∙ all_digits n) in
    let behind = scaled (reading 0 ds) tail digits.1 in
    let whole : n ≡ reading 0 ds * 10 ^ length tail + behind.low = sym (decimal_value n) ∙ ap (reading 0) h ∙ reading-append 0 ds tail ∙ behind.is in
    ap (λ m. m / 10 ^ length tail) whole ∙ div-mul-add (reading 0 ds) (10 ^ length tail) behind.low behind.below

-- a number whose front is v begins with the digits of v
pub record Begins (n v : ℕ) : Type 0 where
  pub tail : List ℕ
  pub is : decimal n ≡ decimal v ++ tail

pub begins : (k n v : ℕ) → 0 < v → n / 10 ^ k ≡ v → Begins n v
begins zero n v p h = let same : n ≡ v = omega (arith, h) in record { tail = []; is = ap decimal same ∙ sym (append-nil (decimal v)) }
begins (suc k) n v p h =
    let split : n / 10 / 10 ^ k ≡ v = div-div-eq-div-mul n 10 (10 ^ k) ∙ ap (λ m. n / m) (mul_comm 10 (10 ^ k) ∙ sym (pow-suc 10 k)) ∙ h in
    let front = begins k (n / 10) v p split in
    let large : 10 ≤ n = ten n k v p split in
    record { tail = front.tail ++ (48 + n % 10) ∷ []; is = decimal_step n large ∙ ap (λ ds. ds ++ (48 + n % 10) ∷ []) front.is ∙ append_assoc (decimal v) front.tail ((48 + n % 10) ∷ []) }
  where
    ten : (n k v : ℕ) → 0 < v → n / 10 / 10 ^ k ≡ v → 10 ≤ n
    ten n k v p e = by (ltb n 10) refl
      where
        by : (t : Bool) → ltb n 10 ≡ t → 10 ≤ n
        by false f = grind (arith, nat_tests)
        by true f =
            let l : n / 10 ≡ 0 = omega (arith, ltb-true n 10 f) in
            absurd (omega (arith, sym e ∙ ap (λ m. m / 10 ^ k) l ∙ zero-div (10 ^ k)))

-- the first digit of a number other than 0 is no 0
pub record First (ds : List ℕ) : Type 0 where
  pub head : ℕ
  pub tail : List ℕ
  pub is : ds ≡ head ∷ tail
  pub digit : is_digit head ≡ true
  pub positive : 48 < head

first_by : (k n : ℕ) → n < 10 ^ k → 0 < n → First (decimal_by k n)
first_by zero n h p = absurd (omega arith)
first_by (suc k) n h p = by (ltb n 10) refl (λ (q : 0 < n / 10). first_by k (n / 10) (tenth k n h) q)
  where
    by : (t : Bool) → ltb n 10 ≡ t → (0 < n / 10 → First (decimal_by k (n / 10))) → First (cond t ((48 + n) ∷ []) (decimal_by k (n / 10) ++ (48 + n % 10) ∷ []))
    by true e f = record { head = 48 + n; tail = []; is = refl; digit = digit_is n (ltb-true n 10 e); positive = omega arith }
    by false e f =
        let l : 10 ≤ n = grind (arith, nat_tests) in
        let g = f (omega arith) in
        record { head = g.head; tail = g.tail ++ (48 + n % 10) ∷ []; is = ap (λ ds. ds ++ (48 + n % 10) ∷ []) g.is; digit = g.digit; positive = g.positive }

pub first_digit : (n : ℕ) → 0 < n → First (decimal n)
unfolding decimal
first_digit n p = first_by (suc n) n (below_next n) p
