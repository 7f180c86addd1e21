use Rattle.std.proofs.Common.{◌≡◌, ◌++◌, map, drop}
use Rattle.term_base.specs.Lits.{lit, lits}
use Rattle.hier_rules.specs.CountedPlaces.{places}
use Rattle.hier_rules.proofs.places.counted_places.Given as goal

abbrev pub invariant-loop-i : goal.invariant-loop-i
invariant-loop-i l = l.all ++ places l.signature l.i (map lit (drop l.i l.c.literals)) ≡ places l.signature 0 (lits l.c)
