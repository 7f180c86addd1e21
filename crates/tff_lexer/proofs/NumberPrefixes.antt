-- The longest prefixes that are numerals, rationals and reals.
use Rattle.std.proofs.Common.{◌≡◌, ℕ, zero, suc, ◌+◌, ◌-◌, ◌<◌, ◌≤◌, Bool, true, false, ◌&&◌, ◌||◌, ◌⊎◌, inl, inr, cond, nat_eq, List, [], ◌∷◌, length, take, drop, refl, sym, ap, ◌∙◌, subst, arith, length-drop}
use Rattle.std.specs.List.{list_all, prefix_len}
use Rattle.std.proofs.lemmas.Bool.{false≢true, and_parts, and_left, and_from}
use Rattle.std.proofs.lemmas.List.{take_rest}
use Rattle.std.proofs.lemmas.List.Sums.{prefix_len-le-length}
use Rattle.tff_lexer.specs.Forms.{begins_with, is_one_of, is_digit, begins_with_digit, are_digits, unsigned, after_digits, digits_then, is_numeral, is_slash_digits, is_exponent, is_exponent_or_empty, is_fraction_or_exponent}
use Rattle.tff_lexer.specs.Prefixes.{IsLongestPrefix, joined_length}
use Rattle.tff_lexer.proofs.LongestPrefixes.{all_take, prefix_passes, no_prefix, none_passes, same_prefixes, joined_one, joined_zero}

-- ---- digits

-- how many digits a text begins with
abbrev pub digits : List ℕ → ℕ
digits u = prefix_len is_digit u

-- the first byte is a digit where the text begins with some
pub begins_take : (u : List ℕ) (m : ℕ) → 0 < m → 0 < digits u → begins_with_digit (take m u) ≡ true
begins_take u zero h d = absurd (omega arith)
begins_take [] (suc m) h d = absurd (omega arith)
begins_take (b ∷ bs) (suc m) h d = step (is_digit b) refl d
  where
    step : (v : Bool) → is_digit b ≡ v → 0 < cond v (1 + digits bs) 0 → is_digit b ≡ true
    step true e d' = e
    step false e d' = absurd (omega arith)

-- and not where none does
pub begins_none : (u : List ℕ) (m : ℕ) → digits u ≡ 0 → begins_with_digit (take m u) ≡ false
begins_none u zero d = refl
begins_none [] (suc m) d = refl
begins_none (b ∷ bs) (suc m) d = step (is_digit b) refl d
  where
    step : (v : Bool) → is_digit b ≡ v → cond v (1 + digits bs) 0 ≡ 0 → is_digit b ≡ false
    step true e d' = absurd (omega arith)
    step false e d' = e

pub digits_prefix : (u : List ℕ) → IsLongestPrefix are_digits u (digits u)
digits_prefix u = record {
  within = prefix_len-le-length is_digit u;
  passes = λ h. and_from (begins_with_digit (take (digits u) u)) (list_all is_digit (take (digits u) u)) (begins_take u (digits u) h h) (prefix_passes is_digit u);
  longest = λ m h t. all_take is_digit m u h (and_parts (begins_with_digit (take m u)) (list_all is_digit (take m u)) t).1;
}

-- what follows the digits of a prefix
pub after_digits-take : (m : ℕ) (u : List ℕ) → after_digits (take m u) ≡ take (m - digits u) (drop (digits u) u)
after_digits-take zero u = let e : 0 - digits u ≡ 0 = omega arith in rw e refl
after_digits-take (suc m) [] = let e : suc m - 0 ≡ suc m = omega arith in rw e refl
after_digits-take (suc m) (b ∷ bs) = step (is_digit b) refl (after_digits-take m bs)
  where
    step : (v : Bool) → is_digit b ≡ v → after_digits (take m bs) ≡ take (m - digits bs) (drop (digits bs) bs) → cond v (after_digits (take m bs)) (b ∷ take m bs) ≡ take (suc m - cond v (1 + digits bs) 0) (drop (cond v (1 + digits bs) 0) (b ∷ bs))
    step true e more =
        let s : 1 + digits bs ≡ suc (digits bs) = omega arith in
        let r : suc m - suc (digits bs) ≡ m - digits bs = omega arith in
        rw (s, r) more
    step false e more = let r : suc m - 0 ≡ suc m = omega arith in rw r refl

-- ---- what follows the digits

module _ (test : List ℕ → Bool) (u : List ℕ) where
  -- what a prefix with digits and more says of the rest
  then_parts : (m : ℕ) → digits_then test (take m u) ≡ true → test (take (m - digits u) (drop (digits u) u)) ≡ true
  then_parts m t = sym (ap test (after_digits-take m u)) ∙ (and_parts (begins_with_digit (take m u)) (test (after_digits (take m u))) t).1

  -- digits, and a prefix of the rest
  then_from : (k : ℕ) → 0 < digits u → test (take k (drop (digits u) u)) ≡ true → digits_then test (take (digits u + k) u) ≡ true
  then_from k d t =
      let r : digits u + k - digits u ≡ k = omega arith in
      let e : after_digits (take (digits u + k) u) ≡ take k (drop (digits u) u) = rw r at (after_digits-take (digits u + k) u) in
      and_from (begins_with_digit (take (digits u + k) u)) (test (after_digits (take (digits u + k) u))) (begins_take u (digits u + k) (omega arith) d) (ap test e ∙ t)

  -- no digits, no prefix
  pub then_none : digits u ≡ 0 → IsLongestPrefix (digits_then test) u 0
  then_none d = no_prefix (digits_then test) u (λ m. and_left (begins_with_digit (take m u)) (test (after_digits (take m u))) (begins_none u m d))

  pub then_prefix : (k : ℕ) → test [] ≡ false → 0 < digits u → IsLongestPrefix test (drop (digits u) u) k → IsLongestPrefix (digits_then test) u (joined_length (digits u) k)
  then_prefix zero none d f = record {
    within = omega arith;
    passes = λ h. absurd (omega arith);
    longest = λ m h t. absurd (none_passes test (drop (digits u) u) (m - digits u) none f (omega (arith, length-drop (digits u) u)) (then_parts m t));
  }
  then_prefix (suc k) none d f = record {
    within = let h = f.within in omega (arith, length-drop (digits u) u, prefix_len-le-length is_digit u);
    passes = λ h. then_from (suc k) d (f.passes (omega arith));
    longest = λ m h t. let g : m - digits u ≤ suc k = f.longest (m - digits u) (omega (arith, length-drop (digits u) u)) (then_parts m t) in omega arith;
  }

-- ---- signs

signed_step : (test : List ℕ → Bool) (b : ℕ) (bs : List ℕ) (n : ℕ) (v : Bool) → test [] ≡ false → is_one_of "+-" b ≡ v → IsLongestPrefix test (cond v bs (b ∷ bs)) n → IsLongestPrefix (λ t. test (unsigned t)) (b ∷ bs) (joined_length (length (b ∷ bs) - length (cond v bs (b ∷ bs))) n)
signed_step test b bs n true none e f =
    let r : suc (length bs) - length bs ≡ 1 = omega arith in
    rw r (joined_one test (λ t. test (unsigned t)) b bs n none none (λ m. rw e refl) f)
signed_step test b bs n false none e f =
    let r : suc (length bs) - suc (length bs) ≡ 0 = omega arith in
    rw (r, joined_zero) (same_prefixes test (λ t. test (unsigned t)) (b ∷ bs) n same f)
  where
    same : (m : ℕ) → test (unsigned (take m (b ∷ bs))) ≡ test (take m (b ∷ bs))
    same zero = refl
    same (suc m) = rw e refl

-- a prefix with a sign or none
pub signed : (test : List ℕ → Bool) (text : List ℕ) (n : ℕ) → test [] ≡ false → IsLongestPrefix test (unsigned text) n → IsLongestPrefix (λ t. test (unsigned t)) text (joined_length (length text - length (unsigned text)) n)
signed test [] n none f = rw joined_zero (same_prefixes test (λ t. test (unsigned t)) [] n same f)
  where
    same : (m : ℕ) → test (unsigned (take m [])) ≡ test (take m [])
    same zero = refl
    same (suc m) = refl
signed test (b ∷ bs) n none f = signed_step test b bs n (is_one_of "+-" b) none refl f

pub numeral_prefix : (text : List ℕ) → IsLongestPrefix is_numeral text (joined_length (length text - length (unsigned text)) (digits (unsigned text)))
numeral_prefix text = signed are_digits text (digits (unsigned text)) refl (digits_prefix (unsigned text))

-- ---- the parts behind a numeral

pub slash_digits_prefix : (bs : List ℕ) → IsLongestPrefix is_slash_digits (47 ∷ bs) (joined_length 1 (digits bs))
slash_digits_prefix bs = joined_one are_digits is_slash_digits 47 bs (digits bs) refl refl (λ m. refl) (digits_prefix bs)

pub exponent_prefix : (b : ℕ) (bs : List ℕ) (n : ℕ) → is_one_of "eE" b ≡ true → IsLongestPrefix is_numeral bs n → IsLongestPrefix is_exponent (b ∷ bs) (joined_length 1 n)
exponent_prefix b bs n e f = joined_one is_numeral is_exponent b bs n refl refl (λ m. rw e refl) f

may_parts : (v : List ℕ) (j : ℕ) → j ≤ length v → is_exponent_or_empty (take j v) ≡ true → (j ≡ 0) ⊎ (is_exponent (take j v) ≡ true)
may_parts v zero h t = inl refl
may_parts [] (suc j) h t = absurd (omega arith)
may_parts (b ∷ bs) (suc j) h t = inr t

may_from : (t : List ℕ) → is_exponent t ≡ true → is_exponent_or_empty t ≡ true
may_from [] h = refl
may_from (b ∷ bs) h = h

-- digits, and an exponent or none
decimals_prefix : (u : List ℕ) (e : ℕ) → 0 < digits u → IsLongestPrefix is_exponent (drop (digits u) u) e → IsLongestPrefix (digits_then is_exponent_or_empty) u (digits u + e)
decimals_prefix u e d f = record {
  within = let h = f.within in omega (arith, length-drop (digits u) u, prefix_len-le-length is_digit u);
  passes = λ h. then_from is_exponent_or_empty u e d (passes e f);
  longest = λ m h t. longest m h (may_parts (drop (digits u) u) (m - digits u) (omega (arith, length-drop (digits u) u)) (then_parts is_exponent_or_empty u m t));
}
  where
    passes : (k : ℕ) → IsLongestPrefix is_exponent (drop (digits u) u) k → is_exponent_or_empty (take k (drop (digits u) u)) ≡ true
    passes zero g = refl
    passes (suc k) g = may_from (take (suc k) (drop (digits u) u)) (g.passes (omega arith))

    longest : (m : ℕ) → m ≤ length u → (m - digits u ≡ 0) ⊎ (is_exponent (take (m - digits u) (drop (digits u) u)) ≡ true) → m ≤ digits u + e
    longest m h (inl z) = omega arith
    longest m h (inr t) = let g : m - digits u ≤ e = f.longest (m - digits u) (omega (arith, length-drop (digits u) u)) t in omega arith

or_false : (x : Bool) → (x || false) ≡ x
or_false true = refl
or_false false = refl

-- `.` and no digits
pub dot_none : (bs : List ℕ) → digits bs ≡ 0 → IsLongestPrefix is_fraction_or_exponent (46 ∷ bs) 0
dot_none bs d = joined_one (digits_then is_exponent_or_empty) is_fraction_or_exponent 46 bs 0 refl refl (λ m. or_false (digits_then is_exponent_or_empty (take m bs))) (then_none is_exponent_or_empty bs d)

joined_some : (n : ℕ) → 0 < n → joined_length 1 n ≡ 1 + n
joined_some zero h = absurd (omega arith)
joined_some (suc n) h = refl

-- `.`, digits, and an exponent or none
pub dot_prefix : (bs : List ℕ) (e : ℕ) → 0 < digits bs → IsLongestPrefix is_exponent (drop (digits bs) bs) e → IsLongestPrefix is_fraction_or_exponent (46 ∷ bs) (1 + (digits bs + e))
dot_prefix bs e d f =
    let g = joined_one (digits_then is_exponent_or_empty) is_fraction_or_exponent 46 bs (digits bs + e) refl refl (λ m. or_false (digits_then is_exponent_or_empty (take m bs))) (decimals_prefix bs e d f) in
    rw (joined_some (digits bs + e) (omega arith)) at g

off_or : (x y z : Bool) → x ≡ false → ((x && y) || z) ≡ z
off_or true y z h = absurd (false≢true (sym h))
off_or false y z h = refl

-- no `.`
pub undotted_prefix : (text : List ℕ) (n : ℕ) → begins_with "." text ≡ false → IsLongestPrefix is_exponent text n → IsLongestPrefix is_fraction_or_exponent text n
undotted_prefix text n h f = same_prefixes is_exponent is_fraction_or_exponent text n (same text h) f
  where
    same : (bs : List ℕ) → begins_with "." bs ≡ false → (m : ℕ) → is_fraction_or_exponent (take m bs) ≡ is_exponent (take m bs)
    same bs h zero = refl
    same [] h (suc m) = refl
    same (b ∷ bs) h (suc m) = off_or (nat_eq 46 b && true) (digits_then is_exponent_or_empty (take m bs)) (is_exponent (b ∷ take m bs)) h

-- the same, as the code meets it
pub dot_is : (text bs : List ℕ) (b d e : ℕ) → text ≡ b ∷ bs → b ≡ 46 → d ≡ digits bs → 0 < d → IsLongestPrefix is_exponent (take (length bs - d) (drop d bs)) e → IsLongestPrefix is_fraction_or_exponent text (1 + d + e)
dot_is text bs b d e split is count some f =
    let g : IsLongestPrefix is_exponent (drop (digits bs) bs) e = subst (λ k. IsLongestPrefix is_exponent (drop k bs) e) count (subst (λ v. IsLongestPrefix is_exponent v e) (take_rest bs d) f) in
    let r : 1 + d + e ≡ 1 + (digits bs + e) = omega arith in
    rw (split, is, r) (dot_prefix bs e (omega arith) g)
