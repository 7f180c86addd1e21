-- Which numbers begin with the digits of a value: with k more digits those from value * 10^k on, 10^k of them.
use Rattle.std.proofs.Common.{◌≡◌, ℕ, suc, ◌+◌, ◌-◌, ◌*◌, ◌/◌, ◌%◌, ◌^◌, ◌<◌, ◌≤◌, Bool, true, false, ltb, refl, sym, ap, ◌∙◌, lit<, arith}
use Rattle.std.proofs.Math.Nat.{pow-suc, add-mul, mul_assoc, mul_comm, mul-le-mul_left, pow-le-pow_right, one-le-pow, lt-div-mul-add}
use Rattle.std.proofs.lemmas.Bool.{ltb-true}
use Rattle.std.proofs.lemmas.Bool.Decides.{nat_tests}
use Rattle.std.proofs.lemmas.Nat.{div-mul-add, div-add-mod'}
use Rattle.text_pieces.specs.Numbers.{Within, Reaches}

-- so far: k more digits, and with fewer the numbers stay below low
pub record Widened (value low least most : ℕ) : Type 0 where
  pub more : ℕ
  pub least_is : least ≡ value * 10 ^ more
  pub most_is : most + 1 ≡ (value + 1) * 10 ^ more
  pub fewer : (j : ℕ) → j < more → (value + 1) * 10 ^ j ≤ low

pub widened_first : (value low : ℕ) → Widened value low value value
widened_first value low = record {
  more = 0;
  least_is = omega arith;
  most_is = omega arith;
  fewer = λ j h. absurd (omega arith);
}

-- ten times a product
ten_times : (a p : ℕ) → 10 * (a * p) ≡ a * (p * 10)
ten_times a p = mul_comm 10 (a * p) ∙ mul_assoc a p 10

pub widened_next : (value low least most : ℕ) → Widened value low least most → most < low → Widened value low (10 * least) (10 * most + 9)
widened_next value low least most w h =
    let p = 10 ^ w.more in
    let power : 10 ^ suc w.more ≡ p * 10 = pow-suc 10 w.more in
    record {
      more = suc w.more;
      least_is = ap (λ z. 10 * z) w.least_is ∙ ten_times value p ∙ ap (λ z. value * z) (sym power);
      most_is =
          let tens : 10 * most + 9 + 1 ≡ 10 * (most + 1) = omega arith in
          tens ∙ ap (λ z. 10 * z) w.most_is ∙ ten_times (value + 1) p ∙ ap (λ z. (value + 1) * z) (sym power);
      fewer = λ j l. by j l (ltb j w.more) refl;
    }
  where
    by : (j : ℕ) → j < suc w.more → (t : Bool) → ltb j w.more ≡ t → (value + 1) * 10 ^ j ≤ low
    by j l true e = w.fewer j (ltb-true j w.more e)
    by j l false e =
        let same : j ≡ w.more = let n : w.more ≤ j = grind (arith, nat_tests) in omega arith in
        let at : (value + 1) * 10 ^ j ≡ most + 1 = ap (λ i. (value + 1) * 10 ^ i) same ∙ sym w.most_is in
        omega arith

-- with the power of ten
span : (value low least most : ℕ) (w : Widened value low least most) → (most + 1 ≡ least + 10 ^ w.more) × (0 < 10 ^ w.more)
span value low least most w =
    let p = 10 ^ w.more in
    let split : (value + 1) * p ≡ value * p + 1 * p = add-mul value 1 p in
    let one : 1 * p ≡ p = omega arith in
    (w.most_is ∙ split ∙ omega (arith, w.least_is), one-le-pow w.more 10 (omega arith))

pub widened_yes : (value low high least most : ℕ) → low ≤ high → Widened value low least most → low ≤ most → least ≤ high → Reaches (Within low high) value
widened_yes value low high least most o w l h = by (ltb least low) refl
  where
    reach : (n : ℕ) → low ≤ n → n ≤ high → least ≤ n → n ≤ most → Reaches (Within low high) value
    reach n a b c d =
        let s = span value low least most w in
        let p = 10 ^ w.more in
        let whole : n ≡ value * p + (n - least) = omega (arith, w.least_is) in
        record {
          number = n;
          more = w.more;
          is_in = record { from_low = a; to_high = b };
          begins = ap (λ m. m / p) whole ∙ div-mul-add value p (n - least) (omega (arith, s.0));
        }

    by : (t : Bool) → ltb least low ≡ t → Reaches (Within low high) value
    by true e = let k = ltb-true least low e in reach low (omega arith) o (omega arith) l
    by false e =
        let k : low ≤ least = grind (arith, nat_tests) in
        let s = span value low least most w in
        reach least k h (omega arith) (omega (arith, s.0, s.1))

pub widened_no : (value low high least most : ℕ) → Widened value low least most → Reaches (Within low high) value → least ≤ high
widened_no value low high least most w r = by (ltb r.more w.more) refl
  where
    power : (j : ℕ) → 0 < 10 ^ j
    power j = one-le-pow j 10 (omega arith)

    by : (t : Bool) → ltb r.more w.more ≡ t → least ≤ high
    by true e =
        let q = 10 ^ r.more in
        let few = w.fewer r.more (ltb-true r.more w.more e) in
        let above : r.number < r.number / q * q + q = lt-div-mul-add {a = r.number} {b = q} (power r.more) in
        let at : r.number / q * q ≡ value * q = ap (λ m. m * q) r.begins in
        let split : (value + 1) * q ≡ value * q + 1 * q = add-mul value 1 q in
        absurd (omega (arith, r.is_in.from_low))
    by false e =
        let k : w.more ≤ r.more = grind (arith, nat_tests) in
        let q = 10 ^ r.more in
        let wider : 10 ^ w.more ≤ q = pow-le-pow_right (lit< tt) {i = w.more} {j = r.more} k in
        let scaled : value * 10 ^ w.more ≤ value * q = mul-le-mul_left value wider in
        let below : value * q + r.number % q ≡ r.number = ap (λ m. m * q + r.number % q) (sym r.begins) ∙ div-add-mod' r.number q in
        omega (arith, r.is_in.to_high, w.least_is)
