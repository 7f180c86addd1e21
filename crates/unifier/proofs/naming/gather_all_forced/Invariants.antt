use Rattle.std.proofs.Common.{◌≡◌, map, drop}
use Rattle.unifier.specs.Naming.{seen, forced_in}
use Rattle.unifier.proofs.naming.gather_all_forced.Given as goal

abbrev pub invariant-loop-pair : goal.invariant-loop-pair
invariant-loop-pair l = forced_in (map seen (drop l.pair-index l.pairs)) l.list.items ≡ forced_in (map seen l.pairs) l.fn.list.items
