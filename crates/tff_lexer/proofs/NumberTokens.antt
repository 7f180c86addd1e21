-- The longest prefix that is a number is the token there.
use Rattle.std.proofs.Common.{◌≡◌, ℕ, zero, suc, ◌+◌, ◌-◌, ◌<◌, ◌≤◌, Bool, true, false, ◌&&◌, nat_eq, List, [], ◌∷◌, length, take, drop, refl, sym, ap, ◌∙◌, subst, arith}
use Rattle.std.proofs.lemmas.Bool.{false≢true, and_parts, eqb-true}
use Rattle.std.proofs.lemmas.List.{take_rest}
use Rattle.tff_lexer.specs.declared.spans.TokenKind.{TokenKind}
use Rattle.tff_lexer.specs.declared.spans.TokenKind.TheVariants.{Lower, Upper, Dollar, Quoted, Distinct, Numeral, Rational, Real, Sign}
use Rattle.tff_lexer.specs.Forms.{are_digits, unsigned, digits_then, is_numeral, is_slash_digits, is_rational, is_fraction_or_exponent, is_real, is_token}
use Rattle.tff_lexer.specs.Prefixes.{IsLongestPrefix, joined_length, kind_by_first_byte}
use Rattle.tff_lexer.specs.Scans.{BeginsToken, BeginsNoToken}
use Rattle.tff_lexer.proofs.LongestPrefixes.{no_prefix}
use Rattle.tff_lexer.proofs.FirstBytes.{no_empty, prefix_first}
use Rattle.tff_lexer.proofs.NumberPrefixes.{digits, signed, numeral_prefix, then_none, then_prefix}

joined_more : (k n : ℕ) → 0 < n → joined_length k n ≡ k + n
joined_more k zero h = absurd (omega arith)
joined_more k (suc n) h = refl

-- what begins with `/` begins no fraction and no exponent
slash_digits_alone : (v : List ℕ) (a : ℕ) → 0 < a → IsLongestPrefix is_slash_digits v a → IsLongestPrefix is_fraction_or_exponent v 0
slash_digits_alone v zero some f = absurd (omega arith)
slash_digits_alone [] (suc a) some f = let h = f.within in absurd (omega arith)
slash_digits_alone (c ∷ cs) (suc a) some f =
    let parts = and_parts (nat_eq 47 c && true) (are_digits (take a cs)) (f.passes some) in
    let e : 47 ≡ c = eqb-true 47 c (and_parts (nat_eq 47 c) true parts.0).0 in
    no_prefix is_fraction_or_exponent (c ∷ cs) (each c e)
  where
    each : (b : ℕ) → 47 ≡ b → (m : ℕ) → is_fraction_or_exponent (take m (b ∷ cs)) ≡ false
    each b e zero = refl
    each b e (suc m) = subst (λ d. is_fraction_or_exponent (d ∷ take m cs) ≡ false) e refl

module _ (text : List ℕ) (kind : kind_by_first_byte text ≡ Numeral) where
  -- no prefix that is a token is longer than the longest of each kind of number
  number_longest : (n x y z : ℕ) → IsLongestPrefix is_numeral text x → IsLongestPrefix is_rational text y → IsLongestPrefix is_real text z → x ≤ n → y ≤ n → z ≤ n → (m : ℕ) (other : TokenKind) → m ≤ length text → is_token other (take m text) ≡ true → m ≤ n
  number_longest n x y z f g r p q s m Numeral h t = let k : m ≤ x = f.longest m h t in omega arith
  number_longest n x y z f g r p q s m Rational h t = let k : m ≤ y = g.longest m h t in omega arith
  number_longest n x y z f g r p q s m Real h t = let k : m ≤ z = r.longest m h t in omega arith
  number_longest n x y z f g r p q s m Lower h t = let e : Lower ≡ Numeral = prefix_first text m Lower t ∙ kind in cc
  number_longest n x y z f g r p q s m Upper h t = let e : Upper ≡ Numeral = prefix_first text m Upper t ∙ kind in cc
  number_longest n x y z f g r p q s m Dollar h t = let e : Dollar ≡ Numeral = prefix_first text m Dollar t ∙ kind in cc
  number_longest n x y z f g r p q s m Quoted h t = let e : Quoted ≡ Numeral = prefix_first text m Quoted t ∙ kind in cc
  number_longest n x y z f g r p q s m Distinct h t = let e : Distinct ≡ Numeral = prefix_first text m Distinct t ∙ kind in cc
  number_longest n x y z f g r p q s m Sign h t = let e : Sign ≡ Numeral = prefix_first text m Sign t ∙ kind in cc

  abbrev u : List ℕ
  u = unsigned text

  abbrev s : ℕ
  s = length text - length (unsigned text)

  rational : (a : ℕ) → 0 < digits u → IsLongestPrefix is_slash_digits (drop (digits u) u) a → IsLongestPrefix is_rational text (joined_length s (joined_length (digits u) a))
  rational a d f = signed (digits_then is_slash_digits) text (joined_length (digits u) a) refl (then_prefix is_slash_digits u a refl d f)

  real : (b : ℕ) → 0 < digits u → IsLongestPrefix is_fraction_or_exponent (drop (digits u) u) b → IsLongestPrefix is_real text (joined_length s (joined_length (digits u) b))
  real b d f = signed (digits_then is_fraction_or_exponent) text (joined_length (digits u) b) refl (then_prefix is_fraction_or_exponent u b refl d f)

  pub number_none : digits (unsigned text) ≡ 0 → BeginsNoToken text
  number_none d = none
    where
      numeral : IsLongestPrefix is_numeral text 0
      numeral = subst (λ n. IsLongestPrefix is_numeral text (joined_length s n)) d (numeral_prefix text)

      none : (m : ℕ) (other : TokenKind) → m ≤ length text → is_token other (take m text) ≡ true → ⊥
      none zero other h t = false≢true (sym (no_empty other) ∙ t)
      none (suc m) other h t =
          let k : suc m ≤ 0 = number_longest 0 0 0 0 numeral (signed (digits_then is_slash_digits) text 0 refl (then_none is_slash_digits u d)) (signed (digits_then is_fraction_or_exponent) text 0 refl (then_none is_fraction_or_exponent u d)) (omega arith) (omega arith) (omega arith) (suc m) other h t in
          omega arith

  begins_number : (k : TokenKind) (n x y z : ℕ) → IsLongestPrefix is_numeral text x → IsLongestPrefix is_rational text y → IsLongestPrefix is_real text z → x ≤ n → y ≤ n → z ≤ n → IsLongestPrefix (is_token k) text n → 0 < n → BeginsToken text k n
  begins_number k n x y z f g r p q i token some = record {
    within = token.within;
    token = token.passes some;
    longest = number_longest n x y z f g r p q i;
  }

  pub number_rational : (a : ℕ) → 0 < digits (unsigned text) → 0 < a → IsLongestPrefix is_slash_digits (drop (digits (unsigned text)) (unsigned text)) a → BeginsToken text Rational (length text - length (unsigned text) + digits (unsigned text) + a)
  number_rational a d some f =
      let whole : joined_length s (digits u) ≡ s + digits u = joined_more s (digits u) d in
      let more : joined_length (digits u) a ≡ digits u + a = joined_more (digits u) a some in
      let all : joined_length s (digits u + a) ≡ s + (digits u + a) = joined_more s (digits u + a) (omega arith) in
      let e : joined_length s (joined_length (digits u) a) ≡ s + digits u + a = ap (joined_length s) more ∙ all ∙ omega arith in
      let token : IsLongestPrefix is_rational text (s + digits u + a) = subst (IsLongestPrefix is_rational text) e (rational a d f) in
      begins_number Rational (s + digits u + a) (joined_length s (digits u)) (s + digits u + a) 0 (numeral_prefix text) token (real 0 d (slash_digits_alone (drop (digits u) u) a some f)) (omega arith) (omega arith) (omega arith) token (omega arith)

  pub number_real : (b : ℕ) → 0 < digits (unsigned text) → 0 < b → IsLongestPrefix is_slash_digits (drop (digits (unsigned text)) (unsigned text)) 0 → IsLongestPrefix is_fraction_or_exponent (drop (digits (unsigned text)) (unsigned text)) b → BeginsToken text Real (length text - length (unsigned text) + digits (unsigned text) + b)
  number_real b d some over f =
      let whole : joined_length s (digits u) ≡ s + digits u = joined_more s (digits u) d in
      let more : joined_length (digits u) b ≡ digits u + b = joined_more (digits u) b some in
      let all : joined_length s (digits u + b) ≡ s + (digits u + b) = joined_more s (digits u + b) (omega arith) in
      let e : joined_length s (joined_length (digits u) b) ≡ s + digits u + b = ap (joined_length s) more ∙ all ∙ omega arith in
      let token : IsLongestPrefix is_real text (s + digits u + b) = subst (IsLongestPrefix is_real text) e (real b d f) in
      begins_number Real (s + digits u + b) (joined_length s (digits u)) 0 (s + digits u + b) (numeral_prefix text) (rational 0 d over) token (omega arith) (omega arith) (omega arith) token (omega arith)

  pub number_numeral : 0 < digits (unsigned text) → IsLongestPrefix is_slash_digits (drop (digits (unsigned text)) (unsigned text)) 0 → IsLongestPrefix is_fraction_or_exponent (drop (digits (unsigned text)) (unsigned text)) 0 → BeginsToken text Numeral (length text - length (unsigned text) + digits (unsigned text))
  number_numeral d over fraction =
      let token : IsLongestPrefix is_numeral text (s + digits u) = subst (IsLongestPrefix is_numeral text) (joined_more s (digits u) d) (numeral_prefix text) in
      begins_number Numeral (s + digits u) (s + digits u) 0 0 token (rational 0 d over) (real 0 d fraction) (omega arith) (omega arith) (omega arith) token (omega arith)

-- the same, as the code meets them
module _ (text w : List ℕ) (d : ℕ) (kind : kind_by_first_byte text ≡ Numeral) (is : w ≡ unsigned text) (count : d ≡ digits w) where
  some_digits : 0 < d → 0 < digits (unsigned text)
  some_digits some = let e : digits w ≡ digits (unsigned text) = ap digits is in omega arith

  moved : (test : List ℕ → Bool) (n : ℕ) → IsLongestPrefix test (take (length w - d) (drop d w)) n → IsLongestPrefix test (drop (digits (unsigned text)) (unsigned text)) n
  moved test n f =
      subst (λ v. IsLongestPrefix test (drop (digits v) v) n) is (subst (λ k. IsLongestPrefix test (drop k w) n) count (subst (λ v. IsLongestPrefix test v n) (take_rest w d) f))

  pub none_is : d ≡ 0 → BeginsNoToken text
  none_is zero_digits = number_none text kind (sym (ap digits is) ∙ sym count ∙ zero_digits)

  pub rational_is : (a : ℕ) → 0 < d → 0 < a → IsLongestPrefix is_slash_digits (take (length w - d) (drop d w)) a → BeginsToken text Rational (length text - length w + d + a)
  rational_is a some more f = rw (count, is) (number_rational text kind a (some_digits some) more (moved is_slash_digits a f))

  pub real_is : (a b : ℕ) → 0 < d → a ≤ 0 → 0 < b → IsLongestPrefix is_slash_digits (take (length w - d) (drop d w)) a → IsLongestPrefix is_fraction_or_exponent (take (length w - d) (drop d w)) b → BeginsToken text Real (length text - length w + d + b)
  real_is a b some none more f g =
      let e : a ≡ 0 = omega arith in
      rw (count, is) (number_real text kind b (some_digits some) more (moved is_slash_digits 0 (subst (λ n. IsLongestPrefix is_slash_digits (take (length w - d) (drop d w)) n) e f)) (moved is_fraction_or_exponent b g))

  pub numeral_is : (a b : ℕ) → 0 < d → a ≤ 0 → b ≤ 0 → IsLongestPrefix is_slash_digits (take (length w - d) (drop d w)) a → IsLongestPrefix is_fraction_or_exponent (take (length w - d) (drop d w)) b → BeginsToken text Numeral (length text - length w + d)
  numeral_is a b some none none' f g =
      let e : a ≡ 0 = omega arith in
      let e' : b ≡ 0 = omega arith in
      rw (count, is) (number_numeral text kind (some_digits some) (moved is_slash_digits 0 (subst (λ n. IsLongestPrefix is_slash_digits (take (length w - d) (drop d w)) n) e f)) (moved is_fraction_or_exponent 0 (subst (λ n. IsLongestPrefix is_fraction_or_exponent (take (length w - d) (drop d w)) n) e' g)))
