-- Lists with a byte between each two members and another byte behind the last.
use Rattle.std.specs.Prelude.{◌≡◌, ℕ, List, [], ◌∷◌, ◌++◌}
use Rattle.text_pieces.specs.Languages.{Cat, Image}

-- this byte, and behind it a text of the one kind and one of the other
pub record Next (byte : ℕ) (First More : List ℕ → Type 0) (text : List ℕ) : Type 0 where
  pub first : List ℕ
  pub more : List ℕ
  pub first_is : First first
  pub more_is : More more
  pub joined : text ≡ byte ∷ (first ++ more)

-- each value behind this byte, and behind the last the byte of the end
abbrev pub Tail : {A : Type 0} → (A → List ℕ → Type 0) → ℕ → ℕ → List A → List ℕ → Type 0
Tail L between end [] text = text ≡ end ∷ []
Tail L between end (x ∷ xs) text = Next between (L x) (Tail L between end xs) text

-- one value or more, this byte between each two, and the byte of the end behind the last
abbrev pub Separated : {A : Type 0} → (A → List ℕ → Type 0) → ℕ → ℕ → List A → List ℕ → Type 0
Separated {A} L between end = Image (λ (p : A × List A). p.0 ∷ p.1) (Cat L (λ first. Tail L between end))
