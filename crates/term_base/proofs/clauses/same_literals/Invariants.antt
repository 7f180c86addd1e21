use Rattle.std.proofs.Common.{◌≡◌, map, drop}
use Rattle.term_base.specs.Lits.{lit}
use Rattle.term_base.specs.LitTests.{same_lits}
use Rattle.term_base.proofs.clauses.same_literals.Given as goal

abbrev pub invariant-loop-l : goal.invariant-loop-l
invariant-loop-l l = same_lits (map lit l.ls) (map lit l.ms) ≡ same_lits (map lit (drop l.l-index l.ls)) (map lit l.rest)
