-- Worked rows of the definitions.
use Rattle.std.specs.Prelude.{◌≡◌, true, false, [], codes}
use Rattle.proof_check.specs.Sections.{before_answer, ends_line}

-- an answer behind a problem is cut off where its line begins
abbrev pub CutOffAnswer : Type 0
CutOffAnswer = before_answer true (codes "p\n% Saturated for stdin\nq") ≡ codes "p\n"

-- of two such lines the first one is where the answer begins
abbrev pub CutOffFirst : Type 0
CutOffFirst = before_answer true (codes "p\n% SZS status \n% Saturated ") ≡ codes "p\n"

-- inside a line there is no cut
abbrev pub NoCutInside : Type 0
NoCutInside = before_answer true (codes "p % Saturated for stdin") ≡ codes "p % Saturated for stdin"

-- no byte and a line end with the end of a line, a byte behind the last line doesn't
abbrev pub EndsOfLines : Type 0
EndsOfLines = (ends_line [] ≡ true) × ((ends_line (codes "p\n") ≡ true) × (ends_line (codes "p\nq") ≡ false))
