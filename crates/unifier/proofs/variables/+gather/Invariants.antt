use Rattle.std.proofs.Common.{◌≡◌, map, drop}
use Rattle.term_base.specs.Trees.{tree, trees}
use Rattle.unifier.specs.Variables.{all_gathered}
use Rattle.unifier.proofs.variables.+gather.Given as goal

abbrev pub invariant-loop-arg : goal.invariant-loop-arg
invariant-loop-arg l =
    all_gathered (trees (map tree (drop l.arg-index l.arg-items))) l.list.items
    ≡ all_gathered (trees (map tree l.arg-items)) l.fn.list.items
