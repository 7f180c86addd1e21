use Rattle.std.proofs.Common.{◌≡◌, ◌++◌, map, drop}
use Rattle.term_base.specs.Trees.{tree, trees}
use Rattle.unifier.specs.Naming.{seen}
use Rattle.unifier.specs.Pairing.{all_beside}
use Rattle.unifier.proofs.matching.+pairing.Given as goal

abbrev pub invariant-pair_up_all-loop-x : goal.invariant-pair_up_all-loop-x
invariant-pair_up_all-loop-x l =
    map seen l.found ++ all_beside (trees (map tree (drop l.x-index l.xs))) (trees (map tree l.rest))
    ≡ map seen l.fn.found ++ all_beside (trees (map tree l.xs)) (trees (map tree l.ys))
