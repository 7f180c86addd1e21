use Rattle.std.proofs.Common.{◌≡◌, map, drop}
use Rattle.term_base.specs.Trees.{tree, trees}
use Rattle.term_base.specs.Purity.{ordinary, any_ordinary}
use Rattle.term_base.proofs.purities.+has_ordinary.Given as goal

abbrev pub invariant-loop-arg : goal.invariant-loop-arg
invariant-loop-arg l = ordinary (tree l.t) ≡ any_ordinary (trees (map tree (drop l.arg-index l.arg-items)))
