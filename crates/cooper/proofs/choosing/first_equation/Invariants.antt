use Rattle.std.proofs.Common.{◌≡◌, drop}
use Rattle.cert_tree.specs.Search.{choice_from}
use Rattle.cooper.proofs.choosing.first_equation.Given as goal

abbrev pub invariant-loop-i : goal.invariant-loop-i
invariant-loop-i l = choice_from 0 l.facts ≡ choice_from l.i (drop l.i l.facts)
