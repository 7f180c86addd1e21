-- Words in front of texts.
use Rattle.std.specs.Prelude.{◌≡◌, ℕ, List, [], ◌∷◌, ◌++◌, length}
use Rattle.text_pieces.specs.Languages.{Behind, Exactly}

-- these bytes in front
abbrev pub Front : {A : Type 0} → List ℕ → (A → List ℕ → Type 0) → A → List ℕ → Type 0
Front [] L = L
Front (b ∷ bs) L = Behind b (Front bs L)

-- these bytes alone
abbrev pub Word : List ℕ → Unit {0} → List ℕ → Type 0
Word = Exactly

-- the bytes don't begin with the word, and so many are left from the first that is another one
pub record NoFront (word text : List ℕ) (left : ℕ) : Type 0 where
  pub done : List ℕ
  pub next : ℕ
  pub todo : List ℕ
  pub rest : List ℕ
  pub split : word ≡ done ++ next ∷ todo
  pub whole : text ≡ done ++ rest
  pub left_is : length rest ≡ left
  pub missing : (more : List ℕ) → rest ≡ next ∷ more → ⊥
