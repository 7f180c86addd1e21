use Rattle.std.proofs.Common.{◌≡◌, ◌++◌, map, drop}
use Rattle.term_base.specs.Lits.{lit, lits}
use Rattle.hier_rules.specs.Candidates.{resolutions}
use Rattle.hier_rules.proofs.listing.resolutions.Given as goal

abbrev pub invariant-loop-i : goal.invariant-loop-i
invariant-loop-i l = l.all ++ resolutions l.i (map lit (drop l.i l.c.literals)) l.cs ≡ resolutions 0 (lits l.c) l.cs
