use Rattle.std.proofs.Common.{length, ◌-◌}
use Rattle.normal_form.specs.Lookup.{Ascends}
use Rattle.normal_form.proofs.lookup.ascending_from.Given as goal

abbrev pub invariant-loop-ascending : goal.invariant-loop-ascending
invariant-loop-ascending l = Ascends l.ascending l.terms

abbrev pub decreases-loop-ascending : goal.decreases-loop-ascending
decreases-loop-ascending l = length l.terms - l.ascending
