-- The remainder of a difference that isn't formed.
use Rattle.std.specs.Prelude.{◌≡◌, ℕ, suc, ◌+◌, ◌-◌, ◌*◌, ◌/◌, ◌%◌, ◌<◌, ◌≤◌, ℤ, pos, negsuc, ◌+ℤ◌, ◌-ℤ◌, ◌<ℤ◌, ◌≤ℤ◌}
use Rattle.std.specs.Int.{int_rem_euclid}
use Rattle.std.proofs.Common.{refl, sym, ◌∙◌, ap, arith}
use Rattle.std.proofs.lemmas.Int.{ints, int_rem_euclid_is}
use Rattle.std.proofs.Math.Nat.{mod-eq_of_lt, suc-mul, mul_comm}
use Rattle.std.proofs.Math.Arith.{digits_mod}

-- so many multiples of n above z, or below it
over : (z : ℤ) (n k r : ℕ) → r < n → z +ℤ pos (k * n) ≡ pos r → int_rem_euclid z (pos n) ≡ pos r
over z n k r h is = int_rem_euclid_is z (pos n) n k r (omega (arith, h)) refl is ∙ ap pos (mod-eq_of_lt h)

under : (z : ℤ) (n q k m r : ℕ) → r < n → m ≡ q * n + r → z +ℤ pos (k * n) ≡ pos m → int_rem_euclid z (pos n) ≡ pos r
under z n q k m r h split is = int_rem_euclid_is z (pos n) n k m (omega (arith, h)) refl is ∙ ap (λ l. pos (l % n)) split ∙ ap pos (digits_mod q h)

pos_above : (a n q r j : ℕ) → r < n → a ≡ q * n + r → j ≤ r → int_rem_euclid (pos a -ℤ pos j) (pos n) ≡ pos (r - j)
pos_above a n q r j h is le = under (pos a -ℤ pos j) n q 0 (a - j) (r - j) (omega (arith, h)) (omega (arith, is, le)) (omega (arith, ints, is, le))

pos_under : (a n q r j : ℕ) → r < j → j < n → a ≡ q * n + r → int_rem_euclid (pos a -ℤ pos j) (pos n) ≡ pos (r + n - j)
pos_under a n q r j h b is =
    let one_more : 1 * n ≡ n = omega arith in
    under (pos a -ℤ pos j) n q 1 (a + n - j) (r + n - j) (omega (arith, h, b)) (omega (arith, h, b, is)) (omega (arith, ints, h, b, is, one_more))

neg_above : (a n q s j : ℕ) → s < n → a ≡ q * n + s → j ≤ n - 1 - s → int_rem_euclid (negsuc a -ℤ pos j) (pos n) ≡ pos (n - 1 - s - j)
neg_above a n q s j h is le =
    let more = suc-mul q n in
    over (negsuc a -ℤ pos j) n (suc q) (n - 1 - s - j) (omega (arith, h)) (omega (arith, ints, h, is, le, more))

neg_under : (a n q s j : ℕ) → s < n → a ≡ q * n + s → n - 1 - s < j → j < n → int_rem_euclid (negsuc a -ℤ pos j) (pos n) ≡ pos (n - 1 - s + n - j)
neg_under a n q s j h is le b =
    let more = suc-mul q n in
    let twice = suc-mul (suc q) n in
    over (negsuc a -ℤ pos j) n (suc (suc q)) (n - 1 - s + n - j) (omega (arith, h, le, b)) (omega (arith, ints, h, is, le, b, more, twice))

split_at : (a n : ℕ) → 0 < n → a ≡ a / n * n + a % n
split_at a n h = let swap = mul_comm (a / n) n in omega (arith, swap, h)

pub rem_above : (top j d at : ℤ) → pos 0 ≤ℤ j → j <ℤ d → at ≡ int_rem_euclid top d → j ≤ℤ at → at -ℤ j ≡ int_rem_euclid (top -ℤ j) d
rem_above (pos a) (pos j) (pos n) at h b is le =
    let up : 0 < n = omega (arith, ints, b) in
    let low : a % n < n = omega (arith, up) in
    let here : j ≤ a % n = omega (arith, ints, is, le) in
    let diff : at -ℤ pos j ≡ pos (a % n - j) = omega (arith, ints, is, here) in
    diff ∙ sym (pos_above a n (a / n) (a % n) j low (split_at a n up) here)
rem_above (negsuc a) (pos j) (pos n) at h b is le =
    let up : 0 < n = omega (arith, ints, b) in
    let low : a % n < n = omega (arith, up) in
    let here : j ≤ n - 1 - a % n = omega (arith, ints, is, le) in
    let diff : at -ℤ pos j ≡ pos (n - 1 - a % n - j) = omega (arith, ints, is, here) in
    diff ∙ sym (neg_above a n (a / n) (a % n) j low (split_at a n up) here)
rem_above top (negsuc j) d at h b is le = absurd (omega (arith, ints, h))
rem_above top (pos j) (negsuc n) at h b is le = absurd (omega (arith, ints, b))

pub rem_under : (top j d at : ℤ) → pos 0 ≤ℤ j → j <ℤ d → at ≡ int_rem_euclid top d → at <ℤ j → at -ℤ j +ℤ d ≡ int_rem_euclid (top -ℤ j) d
rem_under (pos a) (pos j) (pos n) at h b is le =
    let up : 0 < n = omega (arith, ints, b) in
    let below : j < n = omega (arith, ints, b) in
    let here : a % n < j = omega (arith, ints, is, le) in
    let diff : at -ℤ pos j +ℤ pos n ≡ pos (a % n + n - j) = omega (arith, ints, is, here, below) in
    diff ∙ sym (pos_under a n (a / n) (a % n) j here below (split_at a n up))
rem_under (negsuc a) (pos j) (pos n) at h b is le =
    let up : 0 < n = omega (arith, ints, b) in
    let below : j < n = omega (arith, ints, b) in
    let low : a % n < n = omega (arith, up) in
    let here : n - 1 - a % n < j = omega (arith, ints, is, le, low) in
    let diff : at -ℤ pos j +ℤ pos n ≡ pos (n - 1 - a % n + n - j) = omega (arith, ints, is, here, below, low) in
    diff ∙ sym (neg_under a n (a / n) (a % n) j low (split_at a n up) here below)
rem_under top (negsuc j) d at h b is le = absurd (omega (arith, ints, h))
rem_under top (pos j) (negsuc n) at h b is le = absurd (omega (arith, ints, b))
