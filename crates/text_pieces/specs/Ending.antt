-- Bytes that may not follow a text, other than digits.
use Rattle.std.specs.Prelude.{◌≡◌, ℕ, Bool, true, false, ◌||◌, ◌==◌, List, ◌∷◌, length}
use Rattle.text_pieces.specs.Decimals.{is_digit}

-- no byte
abbrev pub no_byte : ℕ → Bool
no_byte b = false

-- a digit or an opening bracket
abbrev pub is_digit_or_bracket : ℕ → Bool
is_digit_or_bracket b = is_digit b || b == 40

-- one of these bytes follows, and so many bytes are left
pub record Followed (more : ℕ → Bool) (rest : List ℕ) (left : ℕ) : Type 0 where
  pub byte : ℕ
  pub behind : List ℕ
  pub is : rest ≡ byte ∷ behind
  pub follows : more byte ≡ true
  pub left_is : length rest ≡ left
