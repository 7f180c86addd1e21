use Rattle.std.proofs.Common.{length}
use Rattle.text_pieces.proofs.Counts.{CountSo}
use Rattle.text_pieces.proofs.numbers.count.Given as goal

abbrev pub invariant-loop-digit : goal.invariant-loop-digit
invariant-loop-digit l = CountSo l.fn.text l.count l.rest

abbrev pub decreases-loop-digit : goal.decreases-loop-digit
decreases-loop-digit l = length l.rest
