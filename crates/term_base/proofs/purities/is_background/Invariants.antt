use Rattle.std.proofs.Common.{◌≡◌, map, drop}
use Rattle.std.specs.List.{list_all}
use Rattle.term_base.specs.Lits.{lit, lits}
use Rattle.term_base.specs.Clauses as clause
use Rattle.term_base.proofs.purities.is_background.Given as goal

abbrev pub invariant-loop-literal : goal.invariant-loop-literal
invariant-loop-literal l = clause.is_background l.signature (lits l.c) ≡ list_all (clause.is_background_lit l.signature) (map lit (drop l.literal-index l.literal-items))
