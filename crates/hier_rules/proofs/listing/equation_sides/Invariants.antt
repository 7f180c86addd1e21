use Rattle.std.proofs.Common.{◌≡◌, ◌++◌, map, drop}
use Rattle.term_base.specs.Lits.{lit, lits}
use Rattle.hier_rules.specs.Candidates.{equation_sides}
use Rattle.hier_rules.proofs.listing.equation_sides.Given as goal

abbrev pub invariant-loop-i : goal.invariant-loop-i
invariant-loop-i l = l.all.items ++ equation_sides l.i (map lit (drop l.i l.c.literals)) ≡ equation_sides 0 (lits l.c)
