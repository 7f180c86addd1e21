use Rattle.std.proofs.Common.{length}
use Rattle.tff_grammar.proofs.types.+bracketed.Given as goal

abbrev pub decreases-bracketed : goal.decreases-bracketed
decreases-bracketed l = length l.pieces.now
