use Rattle.std.proofs.Common.{◌≡◌, map, drop}
use Rattle.term_base.specs.Trees.{tree, trees}
use Rattle.term_base.specs.Known.{is_ground, are_ground}
use Rattle.term_base.proofs.occurrences.+is_ground.Given as goal

abbrev pub invariant-loop-arg : goal.invariant-loop-arg
invariant-loop-arg l = is_ground (tree l.t) ≡ are_ground (trees (map tree (drop l.arg-index l.arg-items)))
