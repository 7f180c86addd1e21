use Rattle.std.proofs.Common.{◌≡◌, map, drop}
use Rattle.term_base.specs.Trees.{tree, trees}
use Rattle.term_base.specs.Purity.{foreground, any_foreground}
use Rattle.term_base.proofs.purities.+has_foreground.Given as goal

abbrev pub invariant-loop-arg : goal.invariant-loop-arg
invariant-loop-arg l = foreground l.signature (tree l.t) ≡ any_foreground l.signature (trees (map tree (drop l.arg-index l.arg-items)))
