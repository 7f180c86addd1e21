use Rattle.std.proofs.Common.{◌≡◌, map, drop}
use Rattle.term_base.specs.Lits.{lit}
use Rattle.step_rules.specs.Abstraction.{is_apart}
use Rattle.step_rules.proofs.abstractions.is_apart.Given as goal

abbrev pub invariant-loop-definition : goal.invariant-loop-definition
invariant-loop-definition l = is_apart (map lit l.definitions) l.v ≡ is_apart (map lit (drop l.definition-index l.definitions)) l.v
