use Rattle.std.proofs.Common.{◌≡◌, map, drop}
use Rattle.term_base.specs.CoverTest.{is_among}
use Rattle.term_base.specs.Lits.{lit}
use Rattle.term_base.proofs.covering.is_among.Given as goal

abbrev pub invariant-loop-m : goal.invariant-loop-m
invariant-loop-m l = is_among (map lit l.literals) (lit l.l) ≡ is_among (map lit (drop l.m-index l.literals)) (lit l.l)
