use Rattle.std.proofs.Common.{◌≡◌, drop}
use Rattle.cert_tree.specs.Counting.{occurs_in}
use Rattle.cert_tree.proofs.rows.occurs_in.Given as goal

abbrev pub invariant-loop-fact : goal.invariant-loop-fact
invariant-loop-fact l = occurs_in l.x l.clause ≡ occurs_in l.x (drop l.fact-index l.clause)
