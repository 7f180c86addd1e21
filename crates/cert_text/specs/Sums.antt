-- The texts of linear sums: the number of terms, the terms by ascending unknown, and the constant.
use Rattle.std.specs.Prelude.{◌≡◌, ℕ, zero, suc, ◌-◌, ◌^◌, ℤ, List, [], ◌∷◌}
use Rattle.lin_base.specs.declared.sums.Lin.{Lin}
use Rattle.text_pieces.specs.Languages.{Cat, Blank, Image}
use Rattle.text_pieces.specs.Numbers.{Number, Within, Any, Signed, Signed128}

-- an unknown within these bounds and its coefficient, which isn't 0
abbrev pub Term : ℕ → ℕ → ℕ × ℤ → List ℕ → Type 0
Term low high = Cat (Blank (Number (Within low high))) (λ x. Blank (Signed (Signed128 1)))

-- so many terms by ascending unknown, the first one from low on
abbrev pub Terms : ℕ → ℕ → List (ℕ × ℤ) → List ℕ → Type 0
Terms zero low [] text = text ≡ []
Terms (suc n) low (term ∷ terms) text = Cat (Term low (2 ^ 32 - 1)) (λ first. Terms n (suc (first.0))) (term, terms) text
Terms _ low _ text = ⊥

-- the sum that is made of its terms and its constant, behind the number of terms
abbrev pub lin_of : ℕ × (List (ℕ × ℤ) × ℤ) → Lin
lin_of parts = record { coefs = parts.1.0; constant = parts.1.1 }

-- a sum
abbrev pub SpellsLin : Lin → List ℕ → Type 0
SpellsLin = Image lin_of (Cat (Number Any) (λ n. Cat (Terms n 0) (λ terms. Blank (Signed (Signed128 0)))))

-- the same terms, of which each leaves room for so many larger unknowns as stand behind it
abbrev pub RoomTerms : ℕ → ℕ → List (ℕ × ℤ) → List ℕ → Type 0
RoomTerms zero low [] text = text ≡ []
RoomTerms (suc n) low (term ∷ terms) text = Cat (Term low (2 ^ 32 - suc n)) (λ first. RoomTerms n (suc (first.0))) (term, terms) text
RoomTerms _ low _ text = ⊥
