use Rattle.std.proofs.Common.{◌≡◌, ◌++◌}
use Rattle.std.specs.VecDeque.{deque_len}
use Rattle.normal_form.proofs.disjunctions.put_before.Given as goal

abbrev pub invariant-loop-literal : goal.invariant-loop-literal
invariant-loop-literal l = l.before.items ++ l.literals.items ≡ l.fn.before.items ++ l.initial.literals.items

abbrev pub decreases-loop-literal : goal.decreases-loop-literal
decreases-loop-literal l = deque_len l.before
