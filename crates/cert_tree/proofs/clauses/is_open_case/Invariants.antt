use Rattle.std.proofs.Common.{◌≡◌, drop}
use Rattle.cert_tree.specs.Stands.{is_open_case}
use Rattle.cert_tree.proofs.clauses.is_open_case.Given as goal

abbrev pub invariant-loop-fact : goal.invariant-loop-fact
invariant-loop-fact l = is_open_case l.params l.used l.clause ≡ is_open_case l.params l.used (drop l.fact-index l.clause)
