-- The first byte of a token decides its kind, numbers apart.
use Rattle.std.proofs.Common.{◌≡◌, ◌≢◌, ℕ, zero, suc, ◌<◌, ◌≤◌, Bool, true, false, ◌&&◌, ◌||◌, ◌==◌, cond, nat_eq, nat_le, nat_lt, List, [], ◌∷◌, length, take, drop, refl, sym, ◌∙◌, subst, inl, inr, Option, arith}
use Rattle.std.proofs.lemmas.Bool.{false≢true, and_parts, and_left, or_cases, leb-true, lt-leb, eqb-true, ne_eqb, cond_both}
use Rattle.tff_lexer.specs.declared.spans.TokenKind.{TokenKind}
use Rattle.tff_lexer.specs.declared.spans.TokenKind.TheVariants.{Lower, Upper, Dollar, Quoted, Distinct, Numeral, Rational, Real, Sign}
use Rattle.tff_lexer.specs.Forms.{begins_with, is_one_of, is_lower_alpha, is_upper_alpha, is_digit, begins_with_digit, unsigned, is_lower, is_content_and_quote, signs, is_sign, is_token}
use Rattle.tff_lexer.specs.Prefixes.{IsLongestPrefix, token_of_length, kind_by_byte, kind_by_first_byte}
use Rattle.tff_lexer.specs.Scans.{FirstToken}
use Rattle.tff_lexer.proofs.LongestPrefixes.{none_passes}
use Rattle.tff_lexer.proofs.SignPrefixes.{among_signs}

-- Numeral stands for rationals and reals too
abbrev pub group : TokenKind → TokenKind
group Lower = Lower
group Upper = Upper
group Dollar = Dollar
group Quoted = Quoted
group Distinct = Distinct
group Numeral = Numeral
group Rational = Numeral
group Real = Numeral
group Sign = Sign

pub ungroup : (k other : TokenKind) → k ≢ Numeral → group other ≡ k → other ≡ k
ungroup k Lower d h = h
ungroup k Upper d h = h
ungroup k Dollar d h = h
ungroup k Quoted d h = h
ungroup k Distinct d h = h
ungroup k Numeral d h = h
ungroup k Rational d h = absurd (d (sym h))
ungroup k Real d h = absurd (d (sym h))
ungroup k Sign d h = h

not_lower_alpha : (b : ℕ) → b < 97 → is_lower_alpha b ≡ false
not_lower_alpha b h = and_left (nat_le 97 b) (nat_le b 122) (lt-leb 97 b h)

not_upper_alpha : (b : ℕ) → b < 65 → is_upper_alpha b ≡ false
not_upper_alpha b h = and_left (nat_le 65 b) (nat_le b 90) (lt-leb 65 b h)

kind_lower_alpha : (b : ℕ) → is_lower_alpha b ≡ true → kind_by_byte b ≡ Lower
kind_lower_alpha b h = rw h refl

kind_upper_alpha : (b : ℕ) → is_upper_alpha b ≡ true → kind_by_byte b ≡ Upper
kind_upper_alpha b h =
    let parts = and_parts (nat_le 65 b) (nat_le b 90) h in
    let small = leb-true b 90 parts.1 in
    rw (not_lower_alpha b (omega (arith, small)), h) refl

kind_digit : (b : ℕ) → is_digit b ≡ true → kind_by_byte b ≡ Numeral
kind_digit b h =
    let parts = and_parts (nat_le 48 b) (nat_le b 57) h in
    let low : 48 ≤ b = leb-true 48 b parts.0 in
    let high : b ≤ 57 = leb-true b 57 parts.1 in
    rw (not_lower_alpha b (omega arith), not_upper_alpha b (omega arith), ne_eqb b 36 (λ e. omega arith), ne_eqb b 39 (λ e. omega arith), ne_eqb b 34 (λ e. omega arith), h) refl

kind_plus_minus : (b : ℕ) → is_one_of "+-" b ≡ true → kind_by_byte b ≡ Numeral
kind_plus_minus b h =
    elim (or_cases (43 == b) ((45 == b) || false) h) [
      | inl e ↦ subst (λ c. kind_by_byte c ≡ Numeral) (eqb-true 43 b e) refl
      | inr e ↦ elim (or_cases (45 == b) false e) [
        | inl f ↦ subst (λ c. kind_by_byte c ≡ Numeral) (eqb-true 45 b f) refl
        | inr f ↦ absurd (false≢true f)
      ]
    ]

-- a text without a sign that begins with a digit
kind_unsigned : (text : List ℕ) → begins_with_digit (unsigned text) ≡ true → kind_by_first_byte text ≡ Numeral
kind_unsigned [] h = absurd (false≢true h)
kind_unsigned (b ∷ bs) h = step (is_one_of "+-" b) refl h
  where
    step : (v : Bool) → is_one_of "+-" b ≡ v → begins_with_digit (cond v bs (b ∷ bs)) ≡ true → kind_by_byte b ≡ Numeral
    step true e g = kind_plus_minus b e
    step false e g = kind_digit b g

kind_is : (c b : ℕ) (k : TokenKind) → kind_by_byte c ≡ k → nat_eq c b ≡ true → k ≡ kind_by_byte b
kind_is c b k e h = sym (subst (λ d. kind_by_byte d ≡ k) (eqb-true c b h) e)

is_sign_kind : TokenKind → Bool
is_sign_kind Sign = true
is_sign_kind _ = false

sign_kind : (k : TokenKind) → is_sign_kind k ≡ true → k ≡ Sign
unfolding is_sign_kind
sign_kind Sign h = refl
sign_kind Lower h = absurd (false≢true h)
sign_kind Upper h = absurd (false≢true h)
sign_kind Dollar h = absurd (false≢true h)
sign_kind Quoted h = absurd (false≢true h)
sign_kind Distinct h = absurd (false≢true h)
sign_kind Numeral h = absurd (false≢true h)
sign_kind Rational h = absurd (false≢true h)
sign_kind Real h = absurd (false≢true h)

kind_sign : (text : List ℕ) → is_sign text ≡ true → kind_by_first_byte text ≡ Sign
unfolding is_sign_kind
kind_sign text h = sign_kind (kind_by_first_byte text) (among_signs (λ t. is_sign_kind (kind_by_first_byte t)) signs text refl h)

pub no_empty : (k : TokenKind) → is_token k [] ≡ false
no_empty Lower = refl
no_empty Upper = refl
no_empty Dollar = refl
no_empty Quoted = refl
no_empty Distinct = refl
no_empty Numeral = refl
no_empty Rational = refl
no_empty Real = refl
no_empty Sign = refl

-- the first byte of a token tells its kind
pub token_first : (k : TokenKind) (b : ℕ) (bs : List ℕ) → is_token k (b ∷ bs) ≡ true → group k ≡ kind_by_byte b
token_first Lower b bs h = sym (kind_lower_alpha b (and_parts _ _ h).0)
token_first Upper b bs h = sym (kind_upper_alpha b (and_parts _ _ h).0)
token_first Dollar b bs h =
    elim (or_cases (begins_with "$" (b ∷ bs) && is_lower bs) (begins_with "$$" (b ∷ bs) && is_lower (drop 1 bs)) h) [
      | inl e ↦ kind_is 36 b Dollar refl (and_parts (nat_eq 36 b) true (and_parts (begins_with "$" (b ∷ bs)) (is_lower bs) e).0).0
      | inr e ↦ kind_is 36 b Dollar refl (and_parts (nat_eq 36 b) _ (and_parts (begins_with "$$" (b ∷ bs)) (is_lower (drop 1 bs)) e).0).0
    ]
token_first Quoted b bs h = kind_is 39 b Quoted refl (and_parts (nat_eq 39 b) true (and_parts (nat_eq 39 b && true) _ (and_parts (nat_eq 39 b && true && nat_lt 2 (length (b ∷ bs))) (is_content_and_quote 39 bs) h).0).0).0
token_first Distinct b bs h = kind_is 34 b Distinct refl (and_parts (nat_eq 34 b) true (and_parts (nat_eq 34 b && true) (is_content_and_quote 34 bs) h).0).0
token_first Numeral b bs h = sym (kind_unsigned (b ∷ bs) (and_parts (begins_with_digit (unsigned (b ∷ bs))) _ h).0)
token_first Rational b bs h = sym (kind_unsigned (b ∷ bs) (and_parts (begins_with_digit (unsigned (b ∷ bs))) _ h).0)
token_first Real b bs h = sym (kind_unsigned (b ∷ bs) (and_parts (begins_with_digit (unsigned (b ∷ bs))) _ h).0)
token_first Sign b bs h = sym (kind_sign (b ∷ bs) h)

pub prefix_first : (text : List ℕ) (m : ℕ) (k : TokenKind) → is_token k (take m text) ≡ true → group k ≡ kind_by_first_byte text
prefix_first text zero k h = absurd (false≢true (sym (no_empty k) ∙ h))
prefix_first [] (suc m) k h = absurd (false≢true (sym (no_empty k) ∙ h))
prefix_first (b ∷ bs) (suc m) k h = token_first k b (take m bs) h

-- the longest prefix of the one kind that may begin here is the token
pub first_of : (k : TokenKind) (text : List ℕ) (n : ℕ) → k ≢ Numeral → kind_by_first_byte text ≡ k → IsLongestPrefix (is_token k) text n → FirstToken text (token_of_length k n)
first_of k text zero other kind f = λ m j h t. none_passes (is_token k) text m (no_empty k) f h (subst (λ i. is_token i (take m text) ≡ true) (ungroup k j other (prefix_first text m j t ∙ kind)) t)
first_of k text (suc n) other kind f = record {
  within = f.within;
  token = f.passes (omega arith);
  longest = λ m j h t. f.longest m h (subst (λ i. is_token i (take m text) ≡ true) (ungroup k j other (prefix_first text m j t ∙ kind)) t);
}

-- the same, as the code meets it
pub first_is : (k : TokenKind) (text : List ℕ) (n : ℕ) (kind : TokenKind) (token : Option (TokenKind × ℕ)) → k ≢ Numeral → kind ≡ kind_by_first_byte text → kind ≡ k → IsLongestPrefix (is_token k) text n → token ≡ token_of_length k n → FirstToken text token
first_is k text n kind token other is is' f e = subst (FirstToken text) (sym e) (first_of k text n other (sym is ∙ is') f)

-- what is none of the other kinds is a sign
abbrev SignOtherwise : TokenKind → Type 0
SignOtherwise k = (k ≡ Lower → ⊥) → (k ≡ Upper → ⊥) → (k ≡ Dollar → ⊥) → (k ≡ Quoted → ⊥) → (k ≡ Distinct → ⊥) → (k ≡ Numeral → ⊥) → k ≡ Sign

kind_otherwise : (b : ℕ) → SignOtherwise (kind_by_byte b)
kind_otherwise b =
    cond_both (is_lower_alpha b) Lower _ SignOtherwise (λ e l u d q o n. absurd (l refl))
    (λ _. cond_both (is_upper_alpha b) Upper _ SignOtherwise (λ e l u d q o n. absurd (u refl))
    (λ _. cond_both (b == 36) Dollar _ SignOtherwise (λ e l u d q o n. absurd (d refl))
    (λ _. cond_both (b == 39) Quoted _ SignOtherwise (λ e l u d q o n. absurd (q refl))
    (λ _. cond_both (b == 34) Distinct _ SignOtherwise (λ e l u d q o n. absurd (o refl))
    (λ _. cond_both (is_digit b || is_one_of "+-" b) Numeral Sign SignOtherwise (λ e l u d q o n. absurd (n refl)) (λ _ l u d q o n. refl))))))

pub sign_otherwise : (text : List ℕ) (kind : TokenKind) → kind ≡ kind_by_first_byte text → SignOtherwise kind
sign_otherwise [] kind is = λ l u d q o n. is
sign_otherwise (b ∷ bs) kind is = subst SignOtherwise (sym is) (kind_otherwise b)
