use Rattle.std.proofs.Common.{◌≡◌, ◌+◌, drop}
use Rattle.unifier.specs.Variables.{rank}
use Rattle.unifier.proofs.variables.rank.Given as goal

abbrev pub invariant-loop-i : goal.invariant-loop-i
invariant-loop-i l = rank l.list l.v ≡ l.i + rank (drop l.i l.list) l.v
