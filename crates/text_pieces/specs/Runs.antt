-- Texts one behind the other, up to a word.
use Rattle.std.specs.Prelude.{◌≡◌, ℕ, List, [], ◌∷◌, ◌++◌}

-- a text of the one kind, and behind it one of the other
pub record Both (First More : List ℕ → Type 0) (text : List ℕ) : Type 0 where
  pub first : List ℕ
  pub more : List ℕ
  pub first_is : First first
  pub more_is : More more
  pub joined : text ≡ first ++ more

-- texts of values one behind the other, each in its state, and behind the last the word of the end
abbrev pub Run : {S A : Type 0} → (S → A → List ℕ → Type 0) → (S → A → S) → List ℕ → S → List A → List ℕ → Type 0
Run L next end s [] text = text ≡ end
Run L next end s (x ∷ xs) text = Both (L s x) (Run L next end (next s x) xs) text
