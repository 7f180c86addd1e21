use Rattle.std.proofs.Common.{◌≡◌, ◌++◌, map, drop}
use Rattle.term_base.specs.Trees.{tree, trees}
use Rattle.hier_rules.specs.CountedPlaces.{paths_each}
use Rattle.hier_rules.proofs.places.+paths.Given as goal

abbrev pub invariant-push_argument_paths-loop-i : goal.invariant-push_argument_paths-loop-i
invariant-push_argument_paths-loop-i l =
    (l.all ++ paths_each l.signature l.fn.path.items l.i (trees (map tree (drop l.i l.args)))
    ≡ l.fn.all ++ paths_each l.signature l.fn.path.items 0 (trees (map tree l.args)))
    × (l.path.items ≡ l.fn.path.items)
