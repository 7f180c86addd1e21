-- A text is a token of at most one kind.
use Rattle.std.proofs.Common.{◌≡◌, ℕ, true, false, ◌&&◌, ◌||◌, ◌==◌, nat_eq, List, [], ◌∷◌, refl, sym, ap, ◌∙◌, subst, inl, inr, if◌then◌else◌}
use Rattle.std.specs.List.{list_all}
use Rattle.std.proofs.lemmas.Bool.{false≢true, and_parts, or_cases, eqb-true}
use Rattle.tff_lexer.specs.declared.spans.TokenKind.{TokenKind}
use Rattle.tff_lexer.specs.declared.spans.TokenKind.TheVariants.{Lower, Upper, Dollar, Quoted, Distinct, Numeral, Rational, Real, Sign}
use Rattle.tff_lexer.specs.Forms.{is_one_of, is_digit, are_digits, begins_with_digit, unsigned, after_digits, digits_then, is_exponent_or_empty, is_numeral, is_slash_digits, is_exponent, is_fraction_or_exponent, is_token}
use Rattle.tff_lexer.specs.Prefixes.{kind_by_first_byte}
use Rattle.tff_lexer.proofs.FirstBytes.{no_empty, token_first}

-- the kind of a number, by what follows its digits
abbrev tail_kind : List ℕ → TokenKind
tail_kind [] = Numeral
tail_kind (b ∷ bs) = if b == 47 then Rational else Real

abbrev resolve : TokenKind → TokenKind → TokenKind
resolve Numeral tail = tail
resolve Lower tail = Lower
resolve Upper tail = Upper
resolve Dollar tail = Dollar
resolve Quoted tail = Quoted
resolve Distinct tail = Distinct
resolve Rational tail = Rational
resolve Real tail = Real
resolve Sign tail = Sign

abbrev tail : List ℕ → TokenKind
tail text = tail_kind (after_digits (unsigned text))

after_all : (t : List ℕ) → list_all is_digit t ≡ true → after_digits t ≡ []
after_all [] h = refl
after_all (b ∷ bs) h = let parts = and_parts (is_digit b) (list_all is_digit bs) h in rw parts.0 (after_all bs parts.1)

tail_numeral : (text : List ℕ) → is_numeral text ≡ true → tail text ≡ Numeral
tail_numeral text h = ap tail_kind (after_all (unsigned text) (and_parts (begins_with_digit (unsigned text)) (list_all is_digit (unsigned text)) h).1)

slash_digits_kind : (a : List ℕ) → is_slash_digits a ≡ true → tail_kind a ≡ Rational
slash_digits_kind [] h = absurd (false≢true h)
slash_digits_kind (b ∷ bs) h =
    let e : 47 ≡ b = eqb-true 47 b (and_parts (nat_eq 47 b) true (and_parts (nat_eq 47 b && true) (are_digits bs) h).0).0 in
    subst (λ c. tail_kind (c ∷ bs) ≡ Rational) e refl

exponent_letter_kind : (b : ℕ) (bs : List ℕ) → is_one_of "eE" b ≡ true → tail_kind (b ∷ bs) ≡ Real
exponent_letter_kind b bs h =
    elim (or_cases (101 == b) ((69 == b) || false) h) [
      | inl e ↦ subst (λ c. tail_kind (c ∷ bs) ≡ Real) (eqb-true 101 b e) refl
      | inr e ↦ elim (or_cases (69 == b) false e) [
        | inl f ↦ subst (λ c. tail_kind (c ∷ bs) ≡ Real) (eqb-true 69 b f) refl
        | inr f ↦ absurd (false≢true f)
      ]
    ]

fraction_or_exponent_kind : (a : List ℕ) → is_fraction_or_exponent a ≡ true → tail_kind a ≡ Real
fraction_or_exponent_kind [] h = absurd (false≢true h)
fraction_or_exponent_kind (b ∷ bs) h =
    elim (or_cases (nat_eq 46 b && true && digits_then is_exponent_or_empty bs) (is_exponent (b ∷ bs)) h) [
      | inl e ↦ subst (λ c. tail_kind (c ∷ bs) ≡ Real) (eqb-true 46 b (and_parts (nat_eq 46 b) true (and_parts (nat_eq 46 b && true) (digits_then is_exponent_or_empty bs) e).0).0) refl
      | inr e ↦ exponent_letter_kind b bs (and_parts (is_one_of "eE" b) (is_numeral bs) e).0
    ]

-- the kind that a token has, read off its bytes
abbrev kind_in : List ℕ → TokenKind
kind_in text = resolve (kind_by_first_byte text) (tail text)

determined : (k : TokenKind) (text : List ℕ) → is_token k text ≡ true → k ≡ kind_in text
determined k [] h = absurd (false≢true (sym (no_empty k) ∙ h))
determined Lower (b ∷ bs) h = ap (λ i. resolve i (tail (b ∷ bs))) (token_first Lower b bs h)
determined Upper (b ∷ bs) h = ap (λ i. resolve i (tail (b ∷ bs))) (token_first Upper b bs h)
determined Dollar (b ∷ bs) h = ap (λ i. resolve i (tail (b ∷ bs))) (token_first Dollar b bs h)
determined Quoted (b ∷ bs) h = ap (λ i. resolve i (tail (b ∷ bs))) (token_first Quoted b bs h)
determined Distinct (b ∷ bs) h = ap (λ i. resolve i (tail (b ∷ bs))) (token_first Distinct b bs h)
determined Sign (b ∷ bs) h = ap (λ i. resolve i (tail (b ∷ bs))) (token_first Sign b bs h)
determined Numeral (b ∷ bs) h = sym (tail_numeral (b ∷ bs) h) ∙ ap (λ i. resolve i (tail (b ∷ bs))) (token_first Numeral b bs h)
determined Rational (b ∷ bs) h =
    sym (slash_digits_kind (after_digits (unsigned (b ∷ bs))) (and_parts (begins_with_digit (unsigned (b ∷ bs))) (is_slash_digits (after_digits (unsigned (b ∷ bs)))) h).1) ∙ ap (λ i. resolve i (tail (b ∷ bs))) (token_first Rational b bs h)
determined Real (b ∷ bs) h =
    sym (fraction_or_exponent_kind (after_digits (unsigned (b ∷ bs))) (and_parts (begins_with_digit (unsigned (b ∷ bs))) (is_fraction_or_exponent (after_digits (unsigned (b ∷ bs)))) h).1) ∙ ap (λ i. resolve i (tail (b ∷ bs))) (token_first Real b bs h)

pub one_kind : (text : List ℕ) (kind other : TokenKind) → is_token kind text ≡ true → is_token other text ≡ true → kind ≡ other
one_kind text kind other h g = determined kind text h ∙ sym (determined other text g)
