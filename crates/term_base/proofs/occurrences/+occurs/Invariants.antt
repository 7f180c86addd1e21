use Rattle.std.proofs.Common.{◌≡◌, map, drop}
use Rattle.term_base.specs.Trees.{tree, trees, occurs, any_occurs}
use Rattle.term_base.proofs.occurrences.+occurs.Given as goal

abbrev pub invariant-loop-arg : goal.invariant-loop-arg
invariant-loop-arg l = occurs l.v (tree l.t) ≡ any_occurs l.v (trees (map tree (drop l.arg-index l.arg-items)))
