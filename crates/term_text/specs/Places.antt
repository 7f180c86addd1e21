-- The texts of sides and places.
use Rattle.std.specs.Prelude.{◌≡◌, ℕ, zero, suc, List, codes}
use Rattle.term_base.specs.declared.places.Place.{Place}
use Rattle.term_base.specs.declared.places.Side.{Side}
use Rattle.term_base.specs.declared.places.Side.TheVariants.{Left, Right}
use Rattle.text_pieces.specs.Languages.{Cat, Image}
use Rattle.text_pieces.specs.Numbers.{Number, Word32}
use Rattle.text_pieces.specs.Fronts.{Front}
use Rattle.text_pieces.specs.Runs.{Run}

-- the letter of a side
abbrev pub side_word : Side → List ℕ
side_word Left = codes "L"
side_word Right = codes "R"

abbrev pub SpellsSide : Side → List ℕ → Type 0
SpellsSide side text = text ≡ side_word side

-- the side whose letter stands at this place
abbrev pub side_at : ℕ → Side
side_at zero = Left
side_at (suc n) = Right

-- the numbers of a path, each behind a dot, up to a blank
abbrev pub SpellsPath : List ℕ → List ℕ → Type 0
SpellsPath = Run (λ (u : Unit {0}). Front (codes ".") (Number Word32)) (λ u n. u) (codes " ") tt

-- the place of a literal's number, a side and a path
abbrev pub place_of : ℕ × (Side × List ℕ) → Place
place_of p = record { literal = p.0; side = p.1.0; path = p.1.1 }

-- a place and the blank behind it
abbrev pub SpellsPlace : Place → List ℕ → Type 0
SpellsPlace = Image place_of (Cat (Number Word32) (λ n. Cat SpellsSide (λ side. SpellsPath)))
