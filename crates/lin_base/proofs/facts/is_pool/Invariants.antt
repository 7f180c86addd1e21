use Rattle.std.proofs.Common.{◌≡◌, drop}
use Rattle.std.specs.List.{list_all}
use Rattle.lin_base.specs.Fact.{is_fact, is_pool}
use Rattle.lin_base.proofs.facts.is_pool.Given as goal

abbrev pub invariant-loop-clause : goal.invariant-loop-clause
invariant-loop-clause l = is_pool l.pool ≡ list_all (list_all is_fact) (drop l.clause-index l.clause-items)
