use Rattle.std.proofs.Common.{◌≡◌, ◌++◌, drop}
use Rattle.lin_base.specs.Steps.{first_wide}
use Rattle.cert_tree.specs.Children as spec
use Rattle.cert_tree.proofs.test_points.formed_far.Given as goal

-- what is made so far, and what is left
abbrev pub invariant-loop-fact : goal.invariant-loop-fact
invariant-loop-fact l =
    (first_wide (spec.far_child_steps l.p l.facts l.j) ≡ first_wide (spec.far_child_steps l.p (drop l.fact-index l.facts) l.j))
    × (spec.far_child l.p l.facts l.j ≡ l.made ++ spec.far_child l.p (drop l.fact-index l.facts) l.j)
