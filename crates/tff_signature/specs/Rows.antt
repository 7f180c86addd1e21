-- Worked rows of the definitions.
use Rattle.std.specs.Prelude.{◌≡◌, true, false, [], ◌∷◌, codes, refl}
use Rattle.tff_signature.specs.Names.{quoted_name, by_first_place, number_of}
use Rattle.tff_signature.specs.Symbols.{Use, first_uses}

-- `'p'` is p, and `'p q'` keeps its quotes
quoted_word : quoted_name (codes "'p'") ≡ codes "p"
quoted_word = refl

quoted_text : quoted_name (codes "'p q'") ≡ codes "'p q'"
quoted_text = refl

-- each name once, by first place
numbers : by_first_place (codes "q" ∷ codes "p" ∷ codes "q" ∷ []) ≡ codes "q" ∷ codes "p" ∷ []
numbers = refl

second_number : number_of (codes "q" ∷ codes "p" ∷ []) (codes "p") ≡ 1
second_number = refl

-- the first use of a word counts
abbrev use_of : Use
use_of = record { name = codes "p"; arity = 1; whole = true }

first_use : first_uses (use_of ∷ record { name = codes "p"; arity = 2; whole = false } ∷ []) ≡ use_of ∷ []
first_use = refl
