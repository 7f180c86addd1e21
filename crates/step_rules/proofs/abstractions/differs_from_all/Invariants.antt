use Rattle.std.proofs.Common.{◌≡◌, map, drop}
use Rattle.term_base.specs.Lits.{lit}
use Rattle.step_rules.specs.Abstraction.{differs_from_all}
use Rattle.step_rules.proofs.abstractions.differs_from_all.Given as goal

abbrev pub invariant-loop-other : goal.invariant-loop-other
invariant-loop-other l = differs_from_all (lit l.d) (map lit l.others) ≡ differs_from_all (lit l.d) (map lit (drop l.other-index l.others))
