use Rattle.std.proofs.Common.{◌≡◌, ◌++◌, drop}
use Rattle.unifier.specs.Variables.{without}
use Rattle.unifier.proofs.variables.without.Given as goal

abbrev pub invariant-loop-w : goal.invariant-loop-w
invariant-loop-w l = l.rest.items ++ without l.v (drop l.w-index l.list) ≡ without l.v l.list
