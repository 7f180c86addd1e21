use Rattle.std.proofs.Common.{◌≡◌, ◌++◌, map, drop}
use Rattle.lin_base.specs.Change.{replace}
use Rattle.lin_base.specs.Steps.{first_wide, replace_all_steps}
use Rattle.cert_tree.proofs.children.replace_all.Given as goal

-- what is replaced so far, and what is left
abbrev pub invariant-loop-fact : goal.invariant-loop-fact
invariant-loop-fact l =
    (first_wide (replace_all_steps l.x l.a l.t l.facts) ≡ first_wide (replace_all_steps l.x l.a l.t (drop l.fact-index l.facts)))
    × (map (replace l.x l.a l.t) l.facts ≡ l.made ++ map (replace l.x l.a l.t) (drop l.fact-index l.facts))
