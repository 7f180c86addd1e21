use Rattle.std.proofs.Common.{◌≡◌, ◌++◌, length, reverse}
use Rattle.hier_rules.proofs.literals.put_behind.Given as goal

abbrev pub invariant-loop-next : goal.invariant-loop-next
invariant-loop-next l = l.literals ++ reverse l.after ≡ l.initial.literals ++ reverse l.initial.after

abbrev pub decreases-loop-next : goal.decreases-loop-next
decreases-loop-next l = length l.after
