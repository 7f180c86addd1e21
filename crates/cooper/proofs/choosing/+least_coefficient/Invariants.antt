use Rattle.std.proofs.Common.{length}
use Rattle.cooper.proofs.choosing.+least_coefficient.Given as goal

abbrev pub decreases-least_coefficient : goal.decreases-least_coefficient
decreases-least_coefficient l = length l.terms.now
