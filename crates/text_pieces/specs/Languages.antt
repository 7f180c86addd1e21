-- Languages: which texts spell which values; what it is to read one in front of the bytes, and where no spelling goes on.
use Rattle.std.specs.Prelude.{◌≡◌, ℕ, zero, suc, ◌<◌, Bool, false, List, [], ◌∷◌, ◌++◌, length, Some, slice_get}
use Rattle.text_pieces.specs.Decimals.{is_digit}

-- the first byte, where there is one, is none of these
abbrev pub Free : (ℕ → Bool) → List ℕ → Type 0
Free more [] = Unit {0}
Free more (b ∷ bs) = more b ≡ false

-- the first byte, where there is one, is no digit
abbrev pub NoDigit : List ℕ → Type 0
NoDigit = Free is_digit

-- the value has a spelling
pub record HasSpelling {A : Type 0} (L : A → List ℕ → Type 0) (value : A) : Type 0 where
  pub text : List ℕ
  pub spelled : L value text

-- some spelling begins with this front
pub record GoesOn {A : Type 0} (L : A → List ℕ → Type 0) (front : List ℕ) : Type 0 where
  pub value : A
  pub text : List ℕ
  pub tail : List ℕ
  pub spelled : L value text
  pub begins : text ≡ front ++ tail

-- a spelling of the value begins the bytes, and none of these bytes follows it
pub record ReadsTo {A : Type 0} (more : ℕ → Bool) (L : A → List ℕ → Type 0) (bytes : List ℕ) (value : A) (rest : List ℕ) : Type 0 where
  pub text : List ℕ
  pub spelled : L value text
  pub whole : bytes ≡ text ++ rest
  pub ends : Free more rest

-- a spelling of the value begins the bytes, and no digit follows it
abbrev pub Reads : {A : Type 0} → (A → List ℕ → Type 0) → List ℕ → A → List ℕ → Type 0
Reads = ReadsTo is_digit

-- no spelling goes on with the first byte of the rest behind this front
abbrev pub StopsAt : {A : Type 0} → (A → List ℕ → Type 0) → List ℕ → List ℕ → Type 0
StopsAt L front [] = Unit {0}
StopsAt L front (b ∷ bs) = GoesOn L (front ++ b ∷ []) → ⊥

-- no spelling that none of these bytes follows begins the bytes, and so many bytes are left from the first with which none goes on
pub record FailsTo {A : Type 0} (more : ℕ → Bool) (L : A → List ℕ → Type 0) (bytes : List ℕ) (left : ℕ) : Type 0 where
  pub front : List ℕ
  pub rest : List ℕ
  pub whole : bytes ≡ front ++ rest
  pub left_is : length rest ≡ left
  pub goes_on : GoesOn L front
  pub stops : StopsAt L front rest
  pub none : (a : A) (rest' : List ℕ) → ReadsTo more L bytes a rest' → ⊥

-- no spelling that no digit follows begins the bytes, and so many bytes are left from the first with which none goes on
abbrev pub Fails : {A : Type 0} → (A → List ℕ → Type 0) → List ℕ → ℕ → Type 0
Fails = FailsTo is_digit

-- a text of the first language, and behind it one of the second, which may depend on the first value
pub record Cat {A B : Type 0} (L : A → List ℕ → Type 0) (M : A → B → List ℕ → Type 0) (value : A × B) (text : List ℕ) : Type 0 where
  pub first : List ℕ
  pub second : List ℕ
  pub first_spelled : L value.0 first
  pub second_spelled : M value.0 value.1 second
  pub joined : text ≡ first ++ second

-- this byte in front
pub record Behind {A : Type 0} (byte : ℕ) (L : A → List ℕ → Type 0) (value : A) (text : List ℕ) : Type 0 where
  pub behind : List ℕ
  pub spelled : L value behind
  pub joined : text ≡ byte ∷ behind

-- a blank in front
abbrev pub Blank : {A : Type 0} → (A → List ℕ → Type 0) → A → List ℕ → Type 0
Blank = Behind 32

-- the values that are made by f
pub record Image {A B : Type 0} (f : A → B) (L : A → List ℕ → Type 0) (value : B) (text : List ℕ) : Type 0 where
  pub from : A
  pub is : value ≡ f from
  pub spelled : L from text

-- these bytes
abbrev pub Exactly : List ℕ → Unit {0} → List ℕ → Type 0
Exactly word value text = text ≡ word

-- one of these words, by its place
abbrev pub OneOf : List (List ℕ) → ℕ → List ℕ → Type 0
OneOf words place text = slice_get words place ≡ Some text

-- no word before this place is read in front of the bytes
abbrev pub NoneBefore : List (List ℕ) → ℕ → List ℕ → Type 0
NoneBefore words place bytes = (k : ℕ) (word : List ℕ) → k < place → slice_get words k ≡ Some word → (rest : List ℕ) → Reads (Exactly word) bytes tt rest → ⊥

-- so many texts of the language, one behind the other
abbrev pub Times : {A : Type 0} → (A → List ℕ → Type 0) → ℕ → List A → List ℕ → Type 0
Times L zero [] text = text ≡ []
Times L (suc n) (x ∷ xs) text = Cat L (λ y. Times L n) (x, xs) text
Times L _ _ text = ⊥
