use Rattle.std.proofs.Common.{◌≡◌, drop, IsTrue}
use Rattle.lin_base.specs.Fact.{is_ascending}
use Rattle.lin_base.specs.Sum.{coef_in}
use Rattle.lin_base.proofs.sums.coef.Given as goal

-- x stands in what is left, which ascends
abbrev pub invariant-loop-term : goal.invariant-loop-term
invariant-loop-term l = record {
  ascending : IsTrue (is_ascending (drop l.term-index l.term-items));
  same : coef_in l.x l.t.coefs ≡ coef_in l.x (drop l.term-index l.term-items);
}
