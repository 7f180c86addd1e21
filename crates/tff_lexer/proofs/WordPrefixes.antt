-- The longest prefixes that are words.
use Rattle.std.proofs.Common.{◌≡◌, ℕ, zero, suc, ◌+◌, ◌-◌, ◌≤◌, Bool, true, false, ◌&&◌, ◌||◌, nat_eq, nat_le, List, [], ◌∷◌, length, take, drop, refl, sym, ◌∙◌, subst, arith}
use Rattle.std.specs.List.{list_all, prefix_len}
use Rattle.std.proofs.lemmas.Bool.{false≢true, and_parts, and_left, and_from, le-leb, eqb-true}
use Rattle.std.proofs.lemmas.List.{take_rest}
use Rattle.std.proofs.lemmas.List.Sums.{prefix_len-le-length}
use Rattle.tff_lexer.specs.Forms.{is_lower_alpha, is_upper_alpha, is_alpha_numeric, is_lower, is_upper, is_dollar, begins_with}
use Rattle.tff_lexer.specs.Prefixes.{IsLongestPrefix, joined_length}
use Rattle.tff_lexer.proofs.LongestPrefixes.{all_take, prefix_passes, joined_one, joined_length-joined_length}

-- a first byte of one kind, then bytes of another
begins_all : (first more : ℕ → Bool) (test : List ℕ → Bool) (b : ℕ) (bs : List ℕ) → test [] ≡ false → ((t : List ℕ) → test (b ∷ t) ≡ (first b && list_all more t)) → first b ≡ true → IsLongestPrefix test (b ∷ bs) (1 + prefix_len more bs)
begins_all first more test b bs none form is_first =
    let e : 1 + prefix_len more bs ≡ suc (prefix_len more bs) = omega arith in
    record {
      within = omega (arith, prefix_len-le-length more bs);
      passes = λ h. rw (e, form, is_first) (prefix_passes more bs);
      longest = longest;
    }
  where
    longest : (m : ℕ) → m ≤ length (b ∷ bs) → test (take m (b ∷ bs)) ≡ true → m ≤ 1 + prefix_len more bs
    longest zero h t = omega arith
    longest (suc m) h t =
        let parts = and_parts (first b) (list_all more (take m bs)) (sym (form (take m bs)) ∙ t) in
        let k : m ≤ prefix_len more bs = all_take more m bs (omega arith) parts.1 in
        omega arith

pub lower_prefix : (b : ℕ) (bs : List ℕ) → is_lower_alpha b ≡ true → IsLongestPrefix is_lower (b ∷ bs) (1 + prefix_len is_alpha_numeric bs)
lower_prefix b bs small = begins_all is_lower_alpha is_alpha_numeric is_lower b bs refl (λ t. refl) small

pub upper_prefix : (b : ℕ) (bs : List ℕ) → is_upper_alpha b ≡ true → IsLongestPrefix is_upper (b ∷ bs) (1 + prefix_len is_alpha_numeric bs)
upper_prefix b bs capital = begins_all is_upper_alpha is_alpha_numeric is_upper b bs refl (λ t. refl) capital

or_off : (x y z : Bool) → y ≡ false → (x || (y && z)) ≡ x
or_off true y z h = refl
or_off false y z h = and_left y z h

-- a lower word behind `$`, and no second `$`
pub dollar_prefix : (bs : List ℕ) (n : ℕ) → begins_with "$" bs ≡ false → IsLongestPrefix is_lower bs n → IsLongestPrefix is_dollar (36 ∷ bs) (joined_length 1 n)
dollar_prefix bs n single f = joined_one is_lower is_dollar 36 bs n refl refl (same bs single) f
  where
    same : (cs : List ℕ) → begins_with "$" cs ≡ false → (m : ℕ) → is_dollar (36 ∷ take m cs) ≡ is_lower (take m cs)
    same cs h zero = refl
    same [] h (suc m) = refl
    same (c ∷ cs) h (suc m) = or_off (is_lower (c ∷ take m cs)) (nat_eq 36 c && true) (is_lower (take m cs)) h

abbrev after_dollar : List ℕ → Bool
after_dollar text = begins_with "$" text && is_lower (drop 1 text)

-- a lower word behind `$$`
pub dollar_dollar_prefix : (bs : List ℕ) (n : ℕ) → IsLongestPrefix is_lower bs n → IsLongestPrefix is_dollar (36 ∷ 36 ∷ bs) (joined_length 2 n)
dollar_dollar_prefix bs n f =
    let once : IsLongestPrefix after_dollar (36 ∷ bs) (joined_length 1 n) = joined_one is_lower after_dollar 36 bs n refl refl (λ m. refl) f in
    let twice = joined_one after_dollar is_dollar 36 (36 ∷ bs) (joined_length 1 n) refl refl same once in
    rw (joined_length-joined_length) at twice
  where
    same : (m : ℕ) → is_dollar (36 ∷ take m (36 ∷ bs)) ≡ after_dollar (take m (36 ∷ bs))
    same zero = refl
    same (suc m) = refl

-- the same, as the code meets them
pub lower_is : (text bs : List ℕ) (b n : ℕ) → text ≡ b ∷ bs → 97 ≤ b → b ≤ 122 → n ≡ prefix_len is_alpha_numeric bs → IsLongestPrefix is_lower text (1 + n)
lower_is text bs b n split low high count = rw (split, count) (lower_prefix b bs (and_from (nat_le 97 b) (nat_le b 122) (le-leb 97 b low) (le-leb b 122 high)))

pub upper_is : (text bs : List ℕ) (b n : ℕ) → text ≡ b ∷ bs → 65 ≤ b → b ≤ 90 → n ≡ prefix_len is_alpha_numeric bs → IsLongestPrefix is_upper text (1 + n)
upper_is text bs b n split low high count = rw (split, count) (upper_prefix b bs (and_from (nat_le 65 b) (nat_le b 90) (le-leb 65 b low) (le-leb b 90 high)))

pub dollar_dollar_is : (text rest : List ℕ) (b n : ℕ) → text ≡ b ∷ rest → b ≡ 36 → begins_with "$" rest ≡ true → IsLongestPrefix is_lower (take (length rest - 1) (drop 1 rest)) n → IsLongestPrefix is_dollar text (joined_length 2 n)
dollar_dollar_is text [] b n split is twice f = absurd (false≢true twice)
dollar_dollar_is text (c ∷ cs) b n split is twice f =
    let e : 36 ≡ c = eqb-true 36 c (and_parts (nat_eq 36 c) true twice).0 in
    let g : IsLongestPrefix is_lower cs n = subst (λ v. IsLongestPrefix is_lower v n) (take_rest (c ∷ cs) 1) f in
    rw (split, is, ← e) (dollar_dollar_prefix cs n g)

pub dollar_is : (text rest : List ℕ) (b n : ℕ) → text ≡ b ∷ rest → b ≡ 36 → begins_with "$" rest ≡ false → IsLongestPrefix is_lower rest n → IsLongestPrefix is_dollar text (joined_length 1 n)
dollar_is text rest b n split is single f = rw (split, is) (dollar_prefix rest n single f)
