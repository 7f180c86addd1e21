use Rattle.std.proofs.Common.{◌≡◌, ◌++◌, drop}
use Rattle.unifier.specs.Naming.{moving}
use Rattle.unifier.proofs.images.moving.Given as goal

abbrev pub invariant-loop-pair : goal.invariant-loop-pair
invariant-loop-pair l = l.all ++ moving (drop l.pair-index l.pairs) ≡ moving l.pairs
