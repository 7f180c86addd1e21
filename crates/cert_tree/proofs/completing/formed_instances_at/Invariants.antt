use Rattle.std.proofs.Common.{◌≡◌, ◌++◌, ◌-◌, map}
use Rattle.std.specs.List.{flat_map}
use Rattle.lin_base.specs.Steps.{first_wide}
use Rattle.cert_tree.specs.Counting.{count_from}
use Rattle.cert_tree.specs.Complete.{moved_steps, moved_instance}
use Rattle.cert_tree.proofs.completing.formed_instances_at.Given as goal

-- what is made so far, and what is left
abbrev pub invariant-loop-j : goal.invariant-loop-j
invariant-loop-j l =
    (first_wide (flat_map (moved_steps l.x l.clause l.bound.b l.bound.rest) (count_from 0 l.count)) ≡ first_wide (flat_map (moved_steps l.x l.clause l.bound.b l.bound.rest) (count_from l.j (l.count - l.j))))
    × (map (moved_instance l.x l.clause l.bound.b l.bound.rest) (count_from 0 l.count) ≡ l.made ++ map (moved_instance l.x l.clause l.bound.b l.bound.rest) (count_from l.j (l.count - l.j)))
