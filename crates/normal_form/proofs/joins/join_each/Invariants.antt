use Rattle.std.proofs.Common.{◌≡◌}
use Rattle.normal_form.specs.Cnf.{join}
use Rattle.normal_form.proofs.joins.join_each.Given as goal

abbrev pub invariant-loop-clause : goal.invariant-loop-clause
invariant-loop-clause l = l.all.items ≡ join l.yielded l.right
