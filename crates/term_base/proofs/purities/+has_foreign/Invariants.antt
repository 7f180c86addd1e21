use Rattle.std.proofs.Common.{◌≡◌, map, drop}
use Rattle.term_base.specs.Trees.{tree, trees}
use Rattle.term_base.specs.Purity.{foreign, any_foreign}
use Rattle.term_base.proofs.purities.+has_foreign.Given as goal

abbrev pub invariant-loop-arg : goal.invariant-loop-arg
invariant-loop-arg l = foreign (tree l.t) ≡ any_foreign (trees (map tree (drop l.arg-index l.arg-items)))
