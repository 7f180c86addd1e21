use Rattle.std.proofs.Common.{◌≡◌, ◌++◌, drop}
use Rattle.lin_base.specs.Steps.{first_wide}
use Rattle.cert_tree.specs.Complete.{uppers_steps, uppers_at}
use Rattle.cert_tree.proofs.completing.formed_uppers.Given as goal

-- what is made so far, and what is left
abbrev pub invariant-loop-fact : goal.invariant-loop-fact
invariant-loop-fact l =
    (first_wide (uppers_steps l.x l.clause l.d l.clause) ≡ first_wide (uppers_steps l.x l.clause l.d (drop l.fact-index l.clause)))
    × (uppers_at l.x l.clause l.d l.clause ≡ l.made ++ uppers_at l.x l.clause l.d (drop l.fact-index l.clause))
