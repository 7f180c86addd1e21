use Rattle.std.proofs.Common.{◌≡◌, [], map, drop}
use Rattle.term_base.specs.Lits.{lit, lits}
use Rattle.hier_rules.specs.Occurrences.{clause_gathered}
use Rattle.hier_rules.proofs.occurrences.variables.Given as goal

abbrev pub invariant-loop-l : goal.invariant-loop-l
invariant-loop-l l = clause_gathered (map lit (drop l.l-index l.l-items)) l.all.items ≡ clause_gathered (lits l.c) []
