use Rattle.std.proofs.Common.{◌≡◌, ◌++◌, drop, nat_le}
use Rattle.std.specs.List.{filter}
use Rattle.cert_tree.specs.Ground as spec
use Rattle.cert_tree.proofs.variables.variables.Given as goal

abbrev pub invariant-loop-x : goal.invariant-loop-x
invariant-loop-x l = spec.variables l.params l.clause ≡ l.kept ++ filter (λ x. nat_le l.params x) (drop l.x-index l.x-items)
