-- Numbers in texts: decimal, without leading zeros.
use Rattle.std.specs.Prelude.{ℕ, zero, suc, ◌+◌, ◌/◌, ◌%◌, Bool, ◌&&◌, nat_le, nat_lt, ℤ, pos, negsuc, List, [], ◌∷◌, ◌++◌, if◌then◌else◌}

-- the byte is one of `0` to `9`
abbrev pub is_digit : ℕ → Bool
is_digit b = nat_le 48 b && nat_le b 57

-- the decimal digits of a number that has at most this many
abbrev pub decimal_by : ℕ → ℕ → List ℕ
decimal_by zero n = []
decimal_by (suc k) n = if nat_lt n 10 then (48 + n) ∷ [] else decimal_by k (n / 10) ++ (48 + n % 10) ∷ []

-- the decimal digits of a number, without leading zeros
unfoldable pub decimal : ℕ → List ℕ
decimal n = decimal_by (suc n) n

-- a minus in front of the digits of a negative number
abbrev pub signed_decimal : ℤ → List ℕ
signed_decimal (pos n) = decimal n
signed_decimal (negsuc n) = 45 ∷ decimal (suc n)
