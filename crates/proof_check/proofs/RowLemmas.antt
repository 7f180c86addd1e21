-- Worked rows of the definitions.
use Rattle.std.proofs.Common.{refl}
use Rattle.proof_check.specs.Rows.{CutOffAnswer, CutOffFirst, NoCutInside, EndsOfLines}

pub cut_off : CutOffAnswer
cut_off = refl

pub cut_off_first : CutOffFirst
cut_off_first = refl

pub no_cut_inside : NoCutInside
no_cut_inside = refl

pub ends_of_lines : EndsOfLines
ends_of_lines = (refl, (refl, refl))
