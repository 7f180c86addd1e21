use Rattle.std.proofs.Common.{length}
use Rattle.cooper.proofs.valuing.+least_top.Given as goal

abbrev pub decreases-least_top : goal.decreases-least_top
decreases-least_top l = length l.facts.now
