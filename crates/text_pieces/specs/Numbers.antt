-- Languages of numbers.
use Rattle.std.specs.Prelude.{◌≡◌, ℕ, suc, ◌≤◌, ◌-◌, ◌/◌, ◌^◌, List, ℤ, pos, negsuc, min, max}
use Rattle.text_pieces.specs.Decimals.{decimal, signed_decimal}
use Rattle.text_pieces.specs.Languages.{Cat, Blank, Image, Times, Reads}

-- a number of these
pub record Number (In : ℕ → Type 0) (n : ℕ) (text : List ℕ) : Type 0 where
  pub is_in : In n
  pub digits : text ≡ decimal n

-- from low to high
pub record Within (low high n : ℕ) : Type 0 where
  pub from_low : low ≤ n
  pub to_high : n ≤ high

-- any number
abbrev pub Any : ℕ → Type 0
Any n = Unit {0}

-- some number of these begins with the digits of v, where v isn't 0
pub record Reaches (In : ℕ → Type 0) (v : ℕ) : Type 0 where
  pub number : ℕ
  pub more : ℕ
  pub is_in : In number
  pub begins : number / 10 ^ more ≡ v

-- what a `u32` holds
abbrev pub Word32 : ℕ → Type 0
Word32 = Within 0 (2 ^ 32 - 1)

-- what an `i128` holds, at least so far from 0
abbrev pub Signed128 : ℕ → ℤ → Type 0
Signed128 least (pos n) = Within least (2 ^ 127 - 1) n
Signed128 least (negsuc n) = Within (max least 1) (2 ^ 127) (suc n)

-- a number with its sign, a minus in front of a negative one alone
pub record Signed (In : ℤ → Type 0) (z : ℤ) (text : List ℕ) : Type 0 where
  pub is_in : In z
  pub digits : text ≡ signed_decimal z

-- a blank, a count of any size, and behind it so many texts of the language
abbrev pub Counted : {A : Type 0} → (A → List ℕ → Type 0) → List A → List ℕ → Type 0
Counted {A} L = Image (λ (p : ℕ × List A). p.1) (Cat (Blank (Number Any)) (Times L))

-- a count as it is, or the largest `u128` in place of a larger one
abbrev pub IsCount : ℕ → ℕ → Type 0
IsCount count n = count ≡ min n (2 ^ 128 - 1)

-- a count of any size was read, the count as it is or as the largest `u128` where it is larger
pub record ReadsCount (bytes : List ℕ) (count : ℕ) (rest : List ℕ) : Type 0 where
  pub number : ℕ
  pub is : IsCount count number
  pub reads : Reads (Number Any) bytes number rest
