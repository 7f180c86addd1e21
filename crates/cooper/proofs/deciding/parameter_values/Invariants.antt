use Rattle.std.proofs.Common.{◌≡◌, ◌++◌, ◌-◌, map}
use Rattle.cert_tree.specs.Counting.{count_from}
use Rattle.cert_tree.specs.Measures.{values_at}
use Rattle.cooper.specs.Walks.{valuation_of}
use Rattle.cooper.proofs.deciding.parameter_values.Given as goal

abbrev pub invariant-loop-p : goal.invariant-loop-p
invariant-loop-p l = values_at l.params (valuation_of l.values) ≡ l.made ++ map (valuation_of l.values) (count_from l.p (l.params - l.p))
