use Rattle.std.proofs.Common.{◌≡◌, ◌++◌, ◌-◌}
use Rattle.lin_base.specs.Steps.{first_wide}
use Rattle.cert_tree.specs.Counting.{count_from}
use Rattle.cert_tree.specs.Complete.{numbered_low_steps, numbered_lows}
use Rattle.cert_tree.proofs.completing.formed_numbered_lows.Given as goal

-- what is made so far, and what is left
abbrev pub invariant-loop-j : goal.invariant-loop-j
invariant-loop-j l =
    (first_wide (numbered_low_steps l.x l.clause (count_from 0 l.count)) ≡ first_wide (numbered_low_steps l.x l.clause (count_from l.j (l.count - l.j))))
    × (numbered_lows l.x l.clause (count_from 0 l.count) ≡ l.made ++ numbered_lows l.x l.clause (count_from l.j (l.count - l.j)))
