use Rattle.std.proofs.Common.{◌≡◌, ◌≤◌, ◌+◌, ◌++◌, length, vec_len, vec_capacity, IsTrue}
use Rattle.lin_base.specs.Fact.{is_ascending}
use Rattle.lin_base.specs.Sum.{add_terms}
use Rattle.lin_base.specs.Steps.{first_wide, add_terms_steps}
use Rattle.lin_base.proofs.changes.add_terms.Given as goal

-- what is added so far, and what is left
abbrev pub invariant-loop-left : goal.invariant-loop-left
invariant-loop-left l = record {
  left : IsTrue (is_ascending l.left);
  right : IsTrue (is_ascending l.right);
  steps : first_wide (add_terms_steps l.fn.left l.fn.right) ≡ first_wide (add_terms_steps l.left l.right);
  sum : add_terms l.fn.left l.fn.right ≡ l.sum.items ++ add_terms l.left l.right;
  room : vec_len l.sum + (length l.left + length l.right) ≤ vec_capacity l.sum;
}

abbrev pub decreases-loop-left : goal.decreases-loop-left
decreases-loop-left l = length l.left + length l.right
