use Rattle.std.proofs.Common.{◌≡◌, map, drop}
use Rattle.unifier.specs.Naming.{seen, is_plain}
use Rattle.unifier.proofs.images.is_plain.Given as goal

abbrev pub invariant-loop-pair : goal.invariant-loop-pair
invariant-loop-pair l = is_plain l.signature (map seen l.pairs) ≡ is_plain l.signature (map seen (drop l.pair-index l.pairs))
