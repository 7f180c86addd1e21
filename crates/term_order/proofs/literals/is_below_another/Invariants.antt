use Rattle.std.proofs.Common.{◌≡◌, map, drop}
use Rattle.term_base.specs.Lits.{lit}
use Rattle.term_order.specs.LiteralTest as test
use Rattle.term_order.proofs.literals.is_below_another.Given as goal

abbrev pub invariant-loop-i : goal.invariant-loop-i
invariant-loop-i l = test.some_above l.signature (lit l.l) l.number 0 (map lit l.literals) ≡ test.some_above l.signature (lit l.l) l.number l.i (map lit (drop l.i l.literals))
