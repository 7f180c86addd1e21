use Rattle.std.proofs.Common.{◌≡◌, drop}
use Rattle.std.specs.List.{list_any}
use Rattle.cert_tree.specs.Rows.{bounds_above}
use Rattle.cert_tree.proofs.rows.has_upper_bound.Given as goal

abbrev pub invariant-loop-fact : goal.invariant-loop-fact
invariant-loop-fact l = list_any (bounds_above l.x) l.clause ≡ list_any (bounds_above l.x) (drop l.fact-index l.clause)
