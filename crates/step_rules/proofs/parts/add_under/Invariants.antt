use Rattle.std.proofs.Common.{◌≡◌, ◌++◌, map, take}
use Rattle.term_base.specs.Lits.{lit, put_lit}
use Rattle.term_base.specs.Substitution.{image}
use Rattle.step_rules.proofs.parts.add_under.Given as goal

abbrev pub invariant-loop-literal : goal.invariant-loop-literal
invariant-loop-literal l = map lit l.all ≡ map lit l.initial.all ++ map (put_lit (image l.s)) (map lit (take l.literal-index l.literals))
