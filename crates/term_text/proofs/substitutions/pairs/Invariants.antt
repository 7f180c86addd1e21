use Rattle.std.proofs.Common.{length}
use Rattle.term_text.proofs.SubstReading.{On}
use Rattle.term_text.proofs.substitutions.pairs.Given as goal

abbrev pub invariant-loop-behind : goal.invariant-loop-behind
invariant-loop-behind l = On l.fn.text l.rest l.last l.all

abbrev pub decreases-loop-behind : goal.decreases-loop-behind
decreases-loop-behind l = length l.rest
