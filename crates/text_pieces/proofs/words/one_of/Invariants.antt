use Rattle.std.proofs.Common.{map}
use Rattle.text_pieces.proofs.Choices.{Tried}
use Rattle.text_pieces.proofs.words.one_of.Given as goal

abbrev pub invariant-loop-i : goal.invariant-loop-i
invariant-loop-i l = Tried (map (λ w. w.now) l.words) l.i l.fn.text l.left
