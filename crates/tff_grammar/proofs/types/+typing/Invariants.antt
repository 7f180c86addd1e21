use Rattle.std.proofs.Common.{length}
use Rattle.tff_grammar.proofs.types.+typing.Given as goal

abbrev pub decreases-typing : goal.decreases-typing
decreases-typing l = length l.pieces.now
