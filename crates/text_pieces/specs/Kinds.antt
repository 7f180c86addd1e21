-- Texts of several kinds, which their first byte tells.
use Rattle.std.specs.Prelude.{ℕ, List, [], ◌∷◌}

-- a text of one of these kinds
pub record OneKind {K A : Type 0} (Parts : K → A → List ℕ → Type 0) (value : A) (text : List ℕ) : Type 0 where
  pub kind : K
  pub spelled : Parts kind value text

-- the kind that the first byte tells, or this one where there is none
abbrev pub kind_at : {K : Type 0} → (ℕ → K) → K → List ℕ → K
kind_at kind_of at_end [] = at_end
kind_at kind_of at_end (b ∷ bs) = kind_of b
