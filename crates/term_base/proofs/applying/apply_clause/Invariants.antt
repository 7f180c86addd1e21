use Rattle.std.proofs.Common.{◌≡◌, map, take}
use Rattle.term_base.specs.Lits.{lit, put_lit}
use Rattle.term_base.specs.Substitution.{image}
use Rattle.term_base.proofs.applying.apply_clause.Given as goal

abbrev pub invariant-loop-literal : goal.invariant-loop-literal
invariant-loop-literal l = map lit l.literals ≡ map (put_lit (image l.s)) (map lit (take l.literal-index l.literal-items))
