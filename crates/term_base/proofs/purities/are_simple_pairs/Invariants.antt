use Rattle.std.proofs.Common.{◌≡◌, drop}
use Rattle.term_base.specs.SimpleTest.{are_simple_pairs}
use Rattle.term_base.proofs.purities.are_simple_pairs.Given as goal

abbrev pub invariant-loop-pair : goal.invariant-loop-pair
invariant-loop-pair l = are_simple_pairs l.signature l.pairs ≡ are_simple_pairs l.signature (drop l.pair-index l.pairs)
