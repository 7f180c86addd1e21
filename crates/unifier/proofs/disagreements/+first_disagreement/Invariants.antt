use Rattle.std.proofs.Common.{◌≡◌, map, drop}
use Rattle.term_base.specs.Trees.{tree, trees}
use Rattle.unifier.specs.Disagreements.{disagreement_among}
use Rattle.unifier.proofs.disagreements.+first_disagreement.Given as goal

abbrev pub invariant-first_among-loop-x : goal.invariant-first_among-loop-x
invariant-first_among-loop-x l =
    disagreement_among (trees (map tree l.xs)) (trees (map tree l.ys))
    ≡ disagreement_among (trees (map tree (drop l.x-index l.xs))) (trees (map tree l.rest))
