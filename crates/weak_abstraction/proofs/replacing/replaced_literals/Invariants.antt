use Rattle.std.proofs.Common.{◌≡◌, map, take}
use Rattle.term_base.specs.Lits.{lit}
use Rattle.weak_abstraction.specs.Abstracted.{named, replaced_lit}
use Rattle.weak_abstraction.specs.Keys.{terms}
use Rattle.weak_abstraction.proofs.replacing.replaced_literals.Given as goal

abbrev pub invariant-loop-literal : goal.invariant-loop-literal
invariant-loop-literal l =
    map lit l.all
    ≡ map (replaced_lit l.signature (named l.signature l.names.first (terms l.names.found.keys))) (map lit (take l.literal-index l.literals))
