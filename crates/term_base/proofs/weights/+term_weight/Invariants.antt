use Rattle.std.proofs.Common.{◌≡◌, ◌+◌, ◌≤◌, min, map, drop}
use Rattle.term_base.specs.Trees.{tree, trees}
use Rattle.term_base.specs.Weight.{weight, weight_all}
use Rattle.term_base.proofs.weights.+term_weight.Given as goal

abbrev pub invariant-loop-arg : goal.invariant-loop-arg
invariant-loop-arg l = record {
  reached : min (weight (tree l.t)) 18446744073709551615 ≡ min (l.total + weight_all (trees (map tree (drop l.arg-index l.arg-items)))) 18446744073709551615;
  fits : l.total ≤ 18446744073709551615;
}
