use Rattle.std.proofs.Common.{◌≡◌, ◌++◌, drop, not, ◌==◌}
use Rattle.std.specs.List.{filter}
use Rattle.lin_base.specs.Sum.{without}
use Rattle.lin_base.proofs.sums.without.Given as goal

abbrev pub invariant-loop-term : goal.invariant-loop-term
invariant-loop-term l = (without l.x l.t).coefs ≡ l.coefs.items ++ filter (λ e. not (e.0 == l.x)) (drop l.term-index l.term-items)
