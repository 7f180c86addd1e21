use Rattle.std.proofs.Common.{◌≡◌, drop}
use Rattle.std.specs.List.{position, position_from}
use Rattle.lin_base.specs.Fact.{is_false}
use Rattle.cooper.proofs.choosing.first_false.Given as goal

abbrev pub invariant-loop-i : goal.invariant-loop-i
invariant-loop-i l = position is_false l.facts ≡ position_from is_false l.i (drop l.i l.facts)
