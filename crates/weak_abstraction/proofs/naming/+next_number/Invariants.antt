use Rattle.std.proofs.Common.{◌≡◌, max, map, drop}
use Rattle.term_base.specs.Trees.{tree, trees}
use Rattle.weak_abstraction.specs.Abstracted.{next_number, next_of_each}
use Rattle.weak_abstraction.proofs.naming.+next_number.Given as goal

abbrev pub invariant-loop-arg : goal.invariant-loop-arg
invariant-loop-arg l = next_number (tree l.t) ≡ max l.next (next_of_each (trees (map tree (drop l.arg-index l.arg-items))))
