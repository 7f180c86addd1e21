use Rattle.std.proofs.Common.{◌≡◌, map, drop}
use Rattle.term_base.specs.Known.{is_known_clause}
use Rattle.term_base.specs.Lits.{lit, lits}
use Rattle.term_base.proofs.occurrences.is_known_clause.Given as goal

abbrev pub invariant-loop-literal : goal.invariant-loop-literal
invariant-loop-literal l = is_known_clause l.n (lits l.c) ≡ is_known_clause l.n (map lit (drop l.literal-index l.literal-items))
