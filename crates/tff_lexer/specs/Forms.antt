-- The forms of tokens (TPTP): which texts are a token, and of which kind.
use Rattle.std.specs.Prelude.{ℕ, Bool, true, false, not, ◌&&◌, ◌||◌, ◌==◌, nat_eq, nat_le, nat_lt, List, [], ◌∷◌, length, drop, if◌then◌else◌, codes}
use Rattle.std.specs.List.{list_all, list_any, starts_with}
use Rattle.tff_lexer.specs.declared.spans.TokenKind.{TokenKind}
use Rattle.tff_lexer.specs.declared.spans.TokenKind.TheVariants.{Lower, Upper, Dollar, Quoted, Distinct, Numeral, Rational, Real, Sign}
use Prim.Native.String.{String}
use lib.Pointwise.{pointwise}

-- ---- words for texts

-- the text begins with this word
abbrev pub begins_with : String → List ℕ → Bool
begins_with word text = starts_with nat_eq text (codes word)

-- the byte is one of these
abbrev pub is_one_of : String → ℕ → Bool
is_one_of set b = list_any (λ c. c == b) (codes set)

-- ---- bytes

-- 0 to 9
abbrev pub is_digit : ℕ → Bool
is_digit b = nat_le 48 b && nat_le b 57

-- a to z (TPTP: lower_alpha)
abbrev pub is_lower_alpha : ℕ → Bool
is_lower_alpha b = nat_le 97 b && nat_le b 122

-- A to Z (TPTP: upper_alpha)
abbrev pub is_upper_alpha : ℕ → Bool
is_upper_alpha b = nat_le 65 b && nat_le b 90

-- a letter, a digit or `_` (TPTP: alpha_numeric)
abbrev pub is_alpha_numeric : ℕ → Bool
is_alpha_numeric b = is_lower_alpha b || is_upper_alpha b || is_digit b || b == 95

-- ---- words

-- a letter a to z, then letters, digits and `_`
abbrev pub is_lower : List ℕ → Bool
is_lower [] = false
is_lower (b ∷ bs) = is_lower_alpha b && list_all is_alpha_numeric bs

-- a letter A to Z, then letters, digits and `_`
abbrev pub is_upper : List ℕ → Bool
is_upper [] = false
is_upper (b ∷ bs) = is_upper_alpha b && list_all is_alpha_numeric bs

-- `$` or `$$`, then a lower word
abbrev pub is_dollar : List ℕ → Bool
is_dollar text = (begins_with "$" text && is_lower (drop 1 text)) || (begins_with "$$" text && is_lower (drop 2 text))

-- ---- quotes

-- a byte from 32 to 126 other than the quote and `\`, which stands for itself between quotes
abbrev pub is_unescaped : ℕ → ℕ → Bool
is_unescaped quote b = nat_le 32 b && nat_le b 126 && not (b == quote) && not (b == 92)

-- what stands behind the opening quote: bytes that stand for themselves, `\` before the quote and `\` before `\`; then the closing quote
abbrev pub is_content_and_quote : ℕ → List ℕ → Bool
is_content_and_quote quote [] = false
is_content_and_quote quote (b ∷ []) = b == quote
is_content_and_quote quote (b ∷ c ∷ bs) = if b == 92 then (c == quote || c == 92) && is_content_and_quote quote bs else is_unescaped quote b && is_content_and_quote quote (c ∷ bs)

-- between `'` and `'`, with something inside
abbrev pub is_quoted : List ℕ → Bool
is_quoted text = begins_with "'" text && nat_lt 2 (length text) && is_content_and_quote 39 (drop 1 text)

-- between `"` and `"`
abbrev pub is_distinct : List ℕ → Bool
is_distinct text = begins_with "\"" text && is_content_and_quote 34 (drop 1 text)

-- ---- numbers

-- the text begins with a digit
abbrev pub begins_with_digit : List ℕ → Bool
begins_with_digit [] = false
begins_with_digit (b ∷ bs) = is_digit b

-- one digit or more, and nothing else
abbrev pub are_digits : List ℕ → Bool
are_digits text = begins_with_digit text && list_all is_digit text

-- the text without a leading `+` or `-`
abbrev pub unsigned : List ℕ → List ℕ
unsigned [] = []
unsigned (b ∷ bs) = if is_one_of "+-" b then bs else b ∷ bs

-- what follows the leading digits
abbrev pub after_digits : List ℕ → List ℕ
after_digits [] = []
after_digits (b ∷ bs) = if is_digit b then after_digits bs else b ∷ bs

-- one digit or more, and what follows them passes the test
abbrev pub digits_then : (List ℕ → Bool) → List ℕ → Bool
digits_then test text = begins_with_digit text && test (after_digits text)

-- digits, perhaps behind a sign
abbrev pub is_numeral : List ℕ → Bool
is_numeral text = are_digits (unsigned text)

-- `/` and digits
abbrev pub is_slash_digits : List ℕ → Bool
is_slash_digits rest = begins_with "/" rest && are_digits (drop 1 rest)

-- a numeral, `/`, digits
abbrev pub is_rational : List ℕ → Bool
is_rational text = digits_then is_slash_digits (unsigned text)

-- `e` or `E`, an optional sign, digits
abbrev pub is_exponent : List ℕ → Bool
is_exponent [] = false
is_exponent (b ∷ bs) = is_one_of "eE" b && is_numeral bs

-- nothing, or an exponent
abbrev pub is_exponent_or_empty : List ℕ → Bool
is_exponent_or_empty [] = true
is_exponent_or_empty (b ∷ bs) = is_exponent (b ∷ bs)

-- `.` and digits, or an exponent, or both
abbrev pub is_fraction_or_exponent : List ℕ → Bool
is_fraction_or_exponent rest = (begins_with "." rest && digits_then is_exponent_or_empty (drop 1 rest)) || is_exponent rest

-- a numeral, then `.` and digits, or an exponent, or both
abbrev pub is_real : List ℕ → Bool
is_real text = digits_then is_fraction_or_exponent (unsigned text)

-- ---- signs

-- the signs
abbrev pub signs : List (List ℕ)
signs = codes "(" ∷ codes ")" ∷ codes "[" ∷ codes "]" ∷ codes "," ∷ codes "." ∷ codes ":" ∷ codes "~" ∷ codes "&" ∷ codes "|" ∷ codes "=>" ∷ codes "<="
    ∷ codes "<=>" ∷ codes "<~>" ∷ codes "~&" ∷ codes "~|" ∷ codes "!" ∷ codes "?" ∷ codes "=" ∷ codes "!=" ∷ codes "*" ∷ codes ">" ∷ codes "!>" ∷ []

-- the text is one of them
abbrev pub is_sign : List ℕ → Bool
is_sign text = list_any (λ sign. pointwise nat_eq sign text) signs

-- ---- kinds

-- the whole text is a token of this kind
abbrev pub is_token : TokenKind → List ℕ → Bool
is_token Lower text = is_lower text
is_token Upper text = is_upper text
is_token Dollar text = is_dollar text
is_token Quoted text = is_quoted text
is_token Distinct text = is_distinct text
is_token Numeral text = is_numeral text
is_token Rational text = is_rational text
is_token Real text = is_real text
is_token Sign text = is_sign text
