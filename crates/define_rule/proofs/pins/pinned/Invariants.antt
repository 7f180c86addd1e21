use Rattle.std.proofs.Common.{◌≡◌, map, drop}
use Rattle.term_base.specs.Lits.{lit}
use Rattle.define_rule.specs.Pins.{pinned}
use Rattle.define_rule.proofs.pins.pinned.Given as goal

abbrev pub invariant-loop-l : goal.invariant-loop-l
invariant-loop-l l = pinned l.signature (map lit l.literals) l.v ≡ pinned l.signature (map lit (drop l.l-index l.literals)) l.v
