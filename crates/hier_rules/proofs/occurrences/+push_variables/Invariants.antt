use Rattle.std.proofs.Common.{◌≡◌, map, drop}
use Rattle.term_base.specs.Trees.{tree, trees}
use Rattle.hier_rules.specs.Occurrences.{all_gathered}
use Rattle.hier_rules.proofs.occurrences.+push_variables.Given as goal

abbrev pub invariant-loop-arg : goal.invariant-loop-arg
invariant-loop-arg l =
    all_gathered (trees (map tree (drop l.arg-index l.arg-items))) l.all.items
    ≡ all_gathered (trees (map tree l.arg-items)) l.fn.all.items
