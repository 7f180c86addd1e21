use Rattle.std.proofs.Common.{◌≡◌, drop}
use Rattle.std.specs.List.{list_any}
use Rattle.cert_tree.specs.Leasts.{is_lower_bound}
use Rattle.cooper.proofs.choosing.has_bound.Given as goal

abbrev pub invariant-loop-fact : goal.invariant-loop-fact
invariant-loop-fact l = list_any (is_lower_bound l.p) l.facts ≡ list_any (is_lower_bound l.p) (drop l.fact-index l.facts)
