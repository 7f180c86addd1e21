use Rattle.std.proofs.Common.{◌≡◌, map, drop}
use Rattle.term_base.specs.Lits.{lit}
use Rattle.step_rules.specs.Abstraction.{are_distinct}
use Rattle.step_rules.proofs.abstractions.are_distinct.Given as goal

abbrev pub invariant-loop-i : goal.invariant-loop-i
invariant-loop-i l = are_distinct (map lit l.definitions) ≡ are_distinct (map lit (drop l.i l.definitions))
