use Rattle.std.proofs.Common.{◌++◌, length}
use Rattle.text_pieces.specs.Separated.{Tail, Separated}
use Rattle.text_pieces.proofs.Lifting.{Lift}
use Rattle.text_pieces.proofs.lists.separated.Given as goal

abbrev pub invariant-loop-behind : goal.invariant-loop-behind
invariant-loop-behind g l = Lift (Separated g.R.Reader.spells l.between l.end) l.fn.text (Tail g.R.Reader.spells l.between l.end) l.rest (λ xs. l.values ++ xs)

abbrev pub decreases-loop-behind : goal.decreases-loop-behind
decreases-loop-behind g l = length l.rest
