use Rattle.std.proofs.Common.{◌≡◌, min, sum_by, map, take}
use Rattle.term_base.specs.Lits.{lit}
use Rattle.term_base.specs.Weight.{lit_weight}
use Rattle.term_base.proofs.weights.weight.Given as goal

abbrev pub invariant-loop-literal : goal.invariant-loop-literal
invariant-loop-literal l = l.total ≡ min (sum_by lit_weight (map lit (take l.literal-index l.literal-items))) 18446744073709551615
