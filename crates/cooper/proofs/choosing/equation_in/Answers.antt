use Rattle.std.proofs.Common.{arith}
use Rattle.std.proofs.lemmas.Grind.{common_steps}
use Rattle.cooper.proofs.Choices.{nonzero-least}
use Rattle.cooper.proofs.choosing.equation_in.Goals as goal

pub returns-in_ok-copy-in-Some-clause-occurring : goal.returns-in_ok-copy-in-Some-clause-occurring
returns-in_ok-copy-in-Some-clause-occurring c = grind (arith, common_steps, nonzero-least)
