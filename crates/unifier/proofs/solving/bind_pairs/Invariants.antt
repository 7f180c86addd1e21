use Rattle.std.proofs.Common.{◌≡◌, map, take}
use Rattle.term_base.specs.Trees.{tree}
use Rattle.unifier.specs.Naming.{seen}
use Rattle.unifier.specs.Search.{seen_bound}
use Rattle.unifier.proofs.solving.bind_pairs.Given as goal

abbrev pub invariant-loop-pair : goal.invariant-loop-pair
invariant-loop-pair l = map seen l.bound ≡ map (seen_bound l.v (tree l.new)) (take l.pair-index l.pairs)
