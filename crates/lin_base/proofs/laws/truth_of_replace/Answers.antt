use Rattle.std.proofs.Common.{arith}
use Rattle.std.proofs.lemmas.Int.{ints}
use Rattle.lin_base.proofs.Truth.{holds-replace}
use Rattle.lin_base.proofs.laws.truth_of_replace.Goals as goal

pub returns : goal.returns
returns c = λ v x a t f h e. holds-replace v x a t (omega (arith, ints, h)) e f
