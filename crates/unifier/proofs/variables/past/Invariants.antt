use Rattle.std.proofs.Common.{◌≡◌, max, drop}
use Rattle.unifier.specs.Variables.{past}
use Rattle.unifier.proofs.variables.past.Given as goal

abbrev pub invariant-loop-v : goal.invariant-loop-v
invariant-loop-v l = past l.list ≡ max l.base (past (drop l.v-index l.list))
