-- Longest prefixes of a text. Private contracts alone cite this file.
use Rattle.std.specs.Prelude.{ℕ, zero, suc, ◌+◌, ◌<◌, ◌≤◌, ◌==◌, ◌||◌, Bool, IsTrue, List, [], ◌∷◌, length, take, Option, Some, None, if◌then◌else◌}
use Rattle.tff_lexer.specs.declared.spans.TokenKind.{TokenKind}
use Rattle.tff_lexer.specs.declared.spans.TokenKind.TheVariants.{Lower, Upper, Dollar, Quoted, Distinct, Numeral, Sign}
use Rattle.tff_lexer.specs.Forms.{is_lower_alpha, is_upper_alpha, is_digit, is_one_of}

-- n is the length of the longest prefix that passes the test, or 0 where none that has a byte does
pub record IsLongestPrefix (test : List ℕ → Bool) (text : List ℕ) (n : ℕ) : Type 0 where
  pub within : n ≤ length text
  pub passes : 0 < n → IsTrue (test (take n text))
  pub longest : (m : ℕ) → m ≤ length text → IsTrue (test (take m text)) → m ≤ n

-- the length of k bytes and of n that follow them; 0 where n is 0
abbrev pub joined_length : ℕ → ℕ → ℕ
joined_length k zero = 0
joined_length k (suc n) = k + suc n

-- the token whose length is given, where that isn't 0
abbrev pub token_of_length : TokenKind → ℕ → Option (TokenKind × ℕ)
token_of_length kind zero = None
token_of_length kind (suc n) = Some (kind, suc n)

-- the kind of the tokens that begin with this byte, if any do; Numeral stands for rationals and reals too
abbrev pub kind_by_byte : ℕ → TokenKind
kind_by_byte b =
    if is_lower_alpha b then Lower
    else if is_upper_alpha b then Upper
    else if b == 36 then Dollar
    else if b == 39 then Quoted
    else if b == 34 then Distinct
    else if is_digit b || is_one_of "+-" b then Numeral
    else Sign

-- the same, by the first byte of a text
abbrev pub kind_by_first_byte : List ℕ → TokenKind
kind_by_first_byte [] = Sign
kind_by_first_byte (b ∷ bs) = kind_by_byte b
