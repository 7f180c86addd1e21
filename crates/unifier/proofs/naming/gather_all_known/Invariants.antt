use Rattle.std.proofs.Common.{◌≡◌, map, drop}
use Rattle.unifier.specs.Naming.{seen, known_in}
use Rattle.unifier.proofs.naming.gather_all_known.Given as goal

abbrev pub invariant-loop-pair : goal.invariant-loop-pair
invariant-loop-pair l = known_in (map seen (drop l.pair-index l.pairs)) l.list.items ≡ known_in (map seen l.pairs) l.fn.list.items
