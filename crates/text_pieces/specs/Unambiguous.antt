-- Languages whose texts are told apart where they are read.
use Rattle.std.specs.Prelude.{◌≡◌, ℕ, Bool, List, ◌++◌}
use Rattle.text_pieces.specs.Decimals.{is_digit}
use Rattle.text_pieces.specs.Languages.{Free, NoDigit}

-- each text of the language is empty or begins with no digit
abbrev pub StartsClear : {A : Type 0} → (A → List ℕ → Type 0) → Type 0
StartsClear {A} L = (a : A) (t : List ℕ) → L a t → NoDigit t

-- some value has a spelling
pub record HasOne {A : Type 0} (L : A → List ℕ → Type 0) : Type 0 where
  pub value : A
  pub text : List ℕ
  pub spelled : L value text

-- two values, their texts and what follows them are the same
pub record SameFront {A : Type 0} (a b : A) (t u x y : List ℕ) : Type 0 where
  pub value : a ≡ b
  pub text : t ≡ u
  pub rest : x ≡ y

-- two spellings in front of the same bytes, which none of these bytes follows, are one
abbrev pub OneFrontTo : {A : Type 0} → (ℕ → Bool) → (A → List ℕ → Type 0) → Type 0
OneFrontTo {A} more L = (a b : A) (t u x y : List ℕ) → L a t → L b u → t ++ x ≡ u ++ y → Free more x → Free more y → SameFront a b t u x y

-- two spellings in front of the same bytes, which no digit follows, are one
abbrev pub OneFront : {A : Type 0} → (A → List ℕ → Type 0) → Type 0
OneFront = OneFrontTo is_digit

-- at most one text of the language is read in front of bytes, none begins with a digit, and there is one
pub record Unambiguous {A : Type 0} (L : A → List ℕ → Type 0) : Type 0 where
  pub one : OneFront L
  pub clear : StartsClear L
  pub some : HasOne L
