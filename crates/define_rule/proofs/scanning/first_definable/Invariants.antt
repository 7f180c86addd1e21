use Rattle.std.proofs.Common.{◌≡◌, map, drop}
use Rattle.term_base.specs.Lits.{lit}
use Rattle.define_rule.specs.Found.{clause_find}
use Rattle.define_rule.proofs.scanning.first_definable.Given as goal

abbrev pub invariant-loop-l : goal.invariant-loop-l
invariant-loop-l l =
    let c = map lit l.literals in
    clause_find l.signature c c ≡ clause_find l.signature c (map lit (drop l.l-index l.literals))
