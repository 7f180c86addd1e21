use Rattle.std.proofs.Common.{◌≡◌, map, drop}
use Rattle.term_base.specs.Substitution.{image, put_all}
use Rattle.term_base.specs.Trees.{tree, trees, same_trees}
use Rattle.unifier.proofs.matching.+becomes.Given as goal

abbrev pub invariant-each_becomes-loop-x : goal.invariant-each_becomes-loop-x
invariant-each_becomes-loop-x l =
    same_trees (put_all (image l.s) (trees (map tree l.xs))) (trees (map tree l.ys))
    ≡ same_trees (put_all (image l.s) (trees (map tree (drop l.x-index l.xs)))) (trees (map tree l.rest))
