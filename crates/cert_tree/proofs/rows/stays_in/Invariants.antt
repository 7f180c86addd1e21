use Rattle.std.proofs.Common.{◌≡◌, ◌++◌, drop}
use Rattle.cert_tree.specs.Rows as spec
use Rattle.cert_tree.proofs.rows.stays_in.Given as goal

-- what is kept so far, and what is left
abbrev pub invariant-loop-fact : goal.invariant-loop-fact
invariant-loop-fact l = spec.stays_in l.x l.clause ≡ l.kept ++ spec.stays_in l.x (drop l.fact-index l.clause)
