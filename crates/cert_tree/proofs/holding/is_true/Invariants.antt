use Rattle.std.proofs.Common.{◌≡◌, pos, drop}
use Rattle.lin_base.specs.Fact.{clause_holds}
use Rattle.cert_tree.proofs.holding.is_true.Given as goal

abbrev pub invariant-loop-fact : goal.invariant-loop-fact
invariant-loop-fact l = clause_holds (λ x. pos 0) l.clause ≡ clause_holds (λ x. pos 0) (drop l.fact-index l.clause)
