-- A count behind a blank.
use Rattle.std.specs.Prelude.{ℕ, List}
use Rattle.text_pieces.specs.Languages.{Reads, Blank}
use Rattle.text_pieces.specs.Numbers.{Number, Any, IsCount}

-- a blank and a count of any size were read, the count as it is or as the largest `u128` where it is larger
pub record BlankCount (bytes : List ℕ) (count : ℕ) (rest : List ℕ) : Type 0 where
  pub number : ℕ
  pub is : IsCount count number
  pub reads : Reads (Blank (Number Any)) bytes number rest
