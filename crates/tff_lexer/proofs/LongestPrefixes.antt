-- How the longest prefix is found from that of the rest.
use Rattle.std.proofs.Common.{◌≡◌, ℕ, zero, suc, ◌+◌, ◌≤◌, Bool, true, false, cond, List, [], ◌∷◌, length, take, refl, sym, ◌∙◌, arith}
use Rattle.std.specs.List.{list_all, prefix_len}
use Rattle.std.proofs.lemmas.Bool.{false≢true, and_parts}
use Rattle.tff_lexer.specs.Prefixes.{IsLongestPrefix, joined_length}

-- a prefix that passes everywhere is no longer than `prefix_len`
pub all_take : (p : ℕ → Bool) (m : ℕ) (xs : List ℕ) → m ≤ length xs → list_all p (take m xs) ≡ true → m ≤ prefix_len p xs
all_take p zero xs h all = omega arith
all_take p (suc m) [] h all = omega arith
all_take p (suc m) (x ∷ xs) h all =
    let (here, more) = and_parts (p x) (list_all p (take m xs)) all in
    let step : m ≤ prefix_len p xs = all_take p m xs (omega arith) more in
    rw here (omega arith)

prefix_step : (p : ℕ → Bool) (x : ℕ) (xs : List ℕ) (v : Bool) → p x ≡ v → list_all p (take (prefix_len p xs) xs) ≡ true → list_all p (take (cond v (1 + prefix_len p xs) 0) (x ∷ xs)) ≡ true
prefix_step p x xs true e more = let s : 1 + prefix_len p xs ≡ suc (prefix_len p xs) = omega arith in rw (s, e) more
prefix_step p x xs false e more = refl

-- and that prefix does
pub prefix_passes : (p : ℕ → Bool) (xs : List ℕ) → list_all p (take (prefix_len p xs) xs) ≡ true
prefix_passes p [] = refl
prefix_passes p (x ∷ xs) = prefix_step p x xs (p x) refl (prefix_passes p xs)

-- no prefix passes
pub no_prefix : (test : List ℕ → Bool) (text : List ℕ) → ((m : ℕ) → test (take m text) ≡ false) → IsLongestPrefix test text 0
no_prefix test text none = record {
  within = omega arith;
  passes = λ h. absurd (omega arith);
  longest = λ m h t. absurd (false≢true (sym (none m) ∙ t));
}

-- where the longest prefix has no byte, no prefix passes
pub none_passes : (test : List ℕ → Bool) (text : List ℕ) (m : ℕ) → test [] ≡ false → IsLongestPrefix test text 0 → m ≤ length text → test (take m text) ≡ true → ⊥
none_passes test text zero none f h t = false≢true (sym none ∙ t)
none_passes test text (suc m) none f h t = let k : suc m ≤ 0 = f.longest (suc m) h t in absurd (omega arith)

-- the same prefixes pass another test
pub same_prefixes : (test other : List ℕ → Bool) (text : List ℕ) (n : ℕ) → ((m : ℕ) → other (take m text) ≡ test (take m text)) → IsLongestPrefix test text n → IsLongestPrefix other text n
same_prefixes test other text n same f = record {
  within = f.within;
  passes = λ h. same n ∙ f.passes h;
  longest = λ m h t. f.longest m h (sym (same m) ∙ t);
}

-- a prefix behind one byte
pub joined_one : (test other : List ℕ → Bool) (b : ℕ) (bs : List ℕ) (n : ℕ) → test [] ≡ false → other [] ≡ false → ((m : ℕ) → other (b ∷ take m bs) ≡ test (take m bs)) → IsLongestPrefix test bs n → IsLongestPrefix other (b ∷ bs) (joined_length 1 n)
joined_one test other b bs zero none none' same f = record {
  within = omega arith;
  passes = λ h. absurd (omega arith);
  longest = longest;
}
  where
    longest : (m : ℕ) → m ≤ length (b ∷ bs) → other (take m (b ∷ bs)) ≡ true → m ≤ 0
    longest zero h t = omega arith
    longest (suc m) h t = absurd (none_passes test bs m none f (omega arith) (sym (same m) ∙ t))
joined_one test other b bs (suc n) none none' same f = record {
  within = let h = f.within in omega arith;
  passes = λ h. let e : 1 + suc n ≡ suc (suc n) = omega arith in rw e (same (suc n) ∙ f.passes (omega arith));
  longest = longest;
}
  where
    longest : (m : ℕ) → m ≤ length (b ∷ bs) → other (take m (b ∷ bs)) ≡ true → m ≤ 1 + suc n
    longest zero h t = omega arith
    longest (suc m) h t = let k : m ≤ suc n = f.longest m (omega arith) (sym (same m) ∙ t) in omega arith

-- behind nothing
pub joined_zero : (n : ℕ) → joined_length 0 n ≡ n
joined_zero zero = refl
joined_zero (suc n) = omega arith

pub joined_length-joined_length : (j k n : ℕ) → joined_length j (joined_length k n) ≡ joined_length (j + k) n
joined_length-joined_length j k zero = refl
joined_length-joined_length j k (suc n) = let e : k + suc n ≡ suc (k + n) = omega arith in rw e (omega arith)
