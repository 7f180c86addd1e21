use Rattle.std.proofs.Common.{◌≡◌, drop}
use Rattle.unifier.specs.Variables.{has}
use Rattle.unifier.proofs.variables.has.Given as goal

abbrev pub invariant-loop-w : goal.invariant-loop-w
invariant-loop-w l = has l.list l.v ≡ has (drop l.w-index l.list) l.v
