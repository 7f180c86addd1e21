use Rattle.std.proofs.Common.{◌≡◌, map, drop}
use Rattle.term_base.specs.Trees.{tree, trees}
use Rattle.term_base.specs.Known.{is_known, are_known}
use Rattle.term_base.proofs.occurrences.+is_known.Given as goal

abbrev pub invariant-loop-arg : goal.invariant-loop-arg
invariant-loop-arg l = is_known l.n (tree l.t) ≡ are_known l.n (trees (map tree (drop l.arg-index l.arg-items)))
