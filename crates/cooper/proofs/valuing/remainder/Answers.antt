use Rattle.std.proofs.Common.{arith}
use Rattle.std.proofs.lemmas.Int.{to_z-of_z}
use Rattle.std.proofs.lemmas.Grind.{common_steps}
use Rattle.cooper.proofs.Remainders.{rem_above, rem_under}
use Rattle.cooper.proofs.valuing.remainder.Goals as goal

pub returns-then-at-j-clause-value : goal.returns-then-at-j-clause-value
returns-then-at-j-clause-value c = grind (arith, common_steps, to_z-of_z, rem_above)

pub returns-else-at-j-clause-value : goal.returns-else-at-j-clause-value
returns-else-at-j-clause-value c = grind (arith, common_steps, to_z-of_z, rem_under)
