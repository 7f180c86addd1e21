use Rattle.std.proofs.Common.{◌≡◌, drop}
use Rattle.unifier.specs.Variables.{all_inserted}
use Rattle.unifier.proofs.variables.insert_all.Given as goal

abbrev pub invariant-loop-v : goal.invariant-loop-v
invariant-loop-v l = all_inserted (drop l.v-index l.others) l.list.items ≡ all_inserted l.others l.fn.list.items
