use Rattle.std.proofs.Common.{◌≡◌, drop}
use Rattle.std.specs.List.{list_all}
use Rattle.lin_base.specs.Fact.{is_fact}
use Rattle.lin_base.proofs.facts.is_clause.Given as goal

abbrev pub invariant-loop-fact : goal.invariant-loop-fact
invariant-loop-fact l = list_all is_fact l.clause ≡ list_all is_fact (drop l.fact-index l.clause)
