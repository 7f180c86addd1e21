-- The number that a numeral stands for.
use Rattle.std.specs.Prelude.{ℕ, ◌+◌, ◌-◌, ◌*◌, ◌^◌, List, [], ◌∷◌, length, if◌then◌else◌, ℤ, pos, neg_ℤ}
use Rattle.tff_lexer.specs.Forms.{begins_with, unsigned}

-- the number that decimal digits stand for, by their places
abbrev pub digits_value : List ℕ → ℕ
digits_value [] = 0
digits_value (b ∷ bs) = (b - 48) * 10 ^ length bs + digits_value bs

-- the number that a numeral stands for
abbrev pub value : List ℕ → ℤ
value text = if begins_with "-" text then neg_ℤ (pos (digits_value (unsigned text))) else pos (digits_value (unsigned text))
