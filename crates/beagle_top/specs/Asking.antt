-- What judges are asked.
use Rattle.std.specs.Prelude.{◌≡◌, ◌⊎◌, ℕ, List, [], ◌∷◌, ◌++◌}

-- at most one query was asked, of number 0
abbrev pub MayAsk : List ℕ → List ℕ → Type 0
MayAsk before after = (after ≡ before) ⊎ (after ≡ before ++ 0 ∷ [])

-- the first of the lists, empty where there is none
abbrev pub first_of : List (List ℕ) → List ℕ
first_of [] = []
first_of (numbers ∷ others) = numbers

-- at most one query was asked of the first, of number 0, and none of the others
abbrev pub MayAskFirst : List (List ℕ) → List (List ℕ) → Type 0
MayAskFirst [] after = after ≡ []
MayAskFirst (numbers ∷ others) after = (after ≡ numbers ∷ others) ⊎ (after ≡ (numbers ++ 0 ∷ []) ∷ others)
