use Rattle.std.proofs.Common.{◌≡◌, ◌++◌, take}
use Rattle.text_pieces.proofs.fronts.front.Given as goal

abbrev pub invariant-loop-byte : goal.invariant-loop-byte
invariant-loop-byte l = l.fn.text ≡ take l.byte-index l.word ++ l.rest
