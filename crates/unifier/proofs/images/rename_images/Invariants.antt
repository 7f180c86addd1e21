use Rattle.std.proofs.Common.{◌≡◌, map, take}
use Rattle.unifier.specs.Naming.{seen, seen_renamed}
use Rattle.unifier.proofs.images.rename_images.Given as goal

abbrev pub invariant-loop-pair : goal.invariant-loop-pair
invariant-loop-pair l = map seen l.all ≡ map (seen_renamed l.forced l.known) (take l.pair-index l.pairs)
