use Rattle.std.proofs.Common.{◌≡◌, take}
use Rattle.term_base.proofs.clauses.copy_literals.Given as goal

abbrev pub invariant-loop-literal : goal.invariant-loop-literal
invariant-loop-literal l = l.all ≡ take l.literal-index l.literals
