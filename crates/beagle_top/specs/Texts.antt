-- The lines of refusals and of checks.
use Rattle.std.specs.Prelude.{ℕ, List, [], ◌∷◌, ◌++◌, codes}
use Rattle.std.specs.Fmt.{decimal}
use Rattle.tff_reader.specs.declared.refusals.Refused.{Refused}
use Rattle.tff_reader.specs.Answer as reading
use Rattle.proof_check.specs.declared.checked.Checked.{Checked}
use Rattle.proof_check.specs.declared.checked.Checked.TheVariants.{Faulty, TooMany, SaturatedList, BadText, RefusedStep, Verified}

-- a line: its text and one newline byte
abbrev pub line : List ℕ → List ℕ
line text = text ++ 10 ∷ []

abbrev pub usage : List ℕ
usage = line (codes "% usage")

abbrev pub too_long : List ℕ
too_long = line (codes "% refused: TooLong")

abbrev pub not_built : List ℕ
not_built = line (codes "% refused: NotBuilt")

-- the line of a fault of reading
abbrev pub refused : Refused → List ℕ
refused r = line (reading.line r)

-- the line of a problem with more clauses than are taken
abbrev pub too_many : ℕ → List ℕ
too_many count = line (codes "% refused: TooManyClauses " ++ decimal count)

-- ---- checks
abbrev pub verified : List ℕ
verified = line (codes "% verified derivation")

-- the line of the step at fault
abbrev pub refused_proof : ℕ → List ℕ
refused_proof step = line (codes "% refused proof: step " ++ decimal step)

-- the line of the byte with which no text goes on
abbrev pub bad_text : ℕ → List ℕ
bad_text at = line (codes "% bad text at " ++ decimal at)

-- the line of what a check finds
abbrev pub found : Checked → List ℕ
found (Faulty r) = refused r
found (TooMany count) = too_many count
found SaturatedList = not_built
found (BadText at) = bad_text at
found (RefusedStep step) = refused_proof step
found Verified = verified
