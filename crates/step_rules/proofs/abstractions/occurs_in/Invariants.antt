use Rattle.std.proofs.Common.{◌≡◌, map, drop}
use Rattle.term_base.specs.Lits.{lit, clause_occurs}
use Rattle.step_rules.proofs.abstractions.occurs_in.Given as goal

abbrev pub invariant-loop-literal : goal.invariant-loop-literal
invariant-loop-literal l = clause_occurs l.v (map lit l.literals) ≡ clause_occurs l.v (map lit (drop l.literal-index l.literals))
