use Rattle.std.proofs.Common.{◌≡◌, ◌-◌, length, drop}
use Rattle.cert_tree.specs.Ground as spec
use Rattle.cert_tree.proofs.variables.unknowns.Given as goal

abbrev pub invariant-loop-done : goal.invariant-loop-done
invariant-loop-done l = l.made.items ≡ spec.unknowns (drop (length l.clause - l.done) l.clause)
