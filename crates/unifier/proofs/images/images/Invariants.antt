use Rattle.std.proofs.Common.{◌≡◌, map, take}
use Rattle.unifier.specs.Naming.{seen, images_of}
use Rattle.unifier.proofs.images.images.Given as goal

abbrev pub invariant-loop-v : goal.invariant-loop-v
invariant-loop-v l = map seen l.all ≡ images_of l.found l.base (take l.v-index l.list)
