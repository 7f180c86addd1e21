-- Faults behind the grammar, each with the byte where it stands.
use Rattle.std.specs.Prelude.{ℕ, List, [], ◌∷◌, Result, Ok, Err}
use Rattle.tff_signature.specs.declared.faults.LaterName.{LaterName}
use Rattle.tff_signature.specs.declared.faults.Later.{Later}

-- the faults of a part of a text, in the order in which they stand there
abbrev pub Faults : Type 0
Faults = List Later

-- a fault of this name at this byte
abbrev pub fault : LaterName → ℕ → Later
fault name at = record { name = name; at = at }

-- one fault
abbrev pub alone : LaterName → ℕ → Faults
alone name at = fault name at ∷ []

-- Ok where there is none, else the first
abbrev pub checked : Faults → Result (Unit {0}) Later
checked [] = Ok tt
checked (f ∷ fs) = Err f
