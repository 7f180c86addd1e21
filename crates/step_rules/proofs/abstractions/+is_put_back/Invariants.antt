use Rattle.std.proofs.Common.{◌≡◌, map, drop}
use Rattle.term_base.specs.Trees.{tree, trees, same_trees}
use Rattle.term_base.specs.Substitution.{put_all}
use Rattle.term_base.specs.Lits.{lit}
use Rattle.step_rules.specs.Abstraction.{put_back}
use Rattle.step_rules.proofs.abstractions.+is_put_back.Given as goal

abbrev pub invariant-are_put_back-loop-x : goal.invariant-are_put_back-loop-x
invariant-are_put_back-loop-x l =
    let back = put_back (map lit l.definitions) in
    same_trees (put_all back (trees (map tree l.xs))) (trees (map tree l.ys))
    ≡ same_trees (put_all back (trees (map tree (drop l.x-index l.xs)))) (trees (map tree l.rest))
