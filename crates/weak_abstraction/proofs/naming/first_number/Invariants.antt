use Rattle.std.proofs.Common.{◌≡◌, max, map, drop}
use Rattle.term_base.specs.Lits.{lit}
use Rattle.weak_abstraction.specs.Abstracted.{first_number}
use Rattle.weak_abstraction.proofs.naming.first_number.Given as goal

abbrev pub invariant-loop-literal : goal.invariant-loop-literal
invariant-loop-literal l = first_number (map lit l.literal-items) ≡ max l.next (first_number (map lit (drop l.literal-index l.literal-items)))
