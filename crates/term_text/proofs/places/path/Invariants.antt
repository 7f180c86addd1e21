use Rattle.std.proofs.Common.{◌++◌, length}
use Rattle.text_pieces.specs.Ending.{no_byte}
use Rattle.text_pieces.proofs.Lifts.{Lift}
use Rattle.term_text.specs.Places.{SpellsPath}
use Rattle.term_text.proofs.places.path.Given as goal

abbrev pub invariant-loop-behind : goal.invariant-loop-behind
invariant-loop-behind l = Lift no_byte SpellsPath l.fn.text SpellsPath l.rest (λ ns. l.steps ++ ns)

abbrev pub decreases-loop-behind : goal.decreases-loop-behind
decreases-loop-behind l = length l.rest
