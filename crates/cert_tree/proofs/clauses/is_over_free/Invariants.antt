use Rattle.std.proofs.Common.{◌≡◌, drop}
use Rattle.std.specs.List.{list_all}
use Rattle.cert_tree.specs.Counting as spec
use Rattle.cert_tree.proofs.clauses.is_over_free.Given as goal

abbrev pub invariant-loop-term : goal.invariant-loop-term
invariant-loop-term l = spec.is_over_free l.params l.used l.t ≡ list_all (λ e. spec.is_free l.params l.used e.0) (drop l.term-index l.term-items)
