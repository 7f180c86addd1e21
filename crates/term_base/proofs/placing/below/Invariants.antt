use Rattle.std.proofs.Common.{◌≡◌, drop}
use Rattle.term_base.specs.Trees.{tree}
use Rattle.term_base.specs.Places as spec
use Rattle.term_base.proofs.placing.below.Given as goal

abbrev pub invariant-loop-number : goal.invariant-loop-number
invariant-loop-number l = spec.at_path l.path (tree l.fn.t) ≡ spec.at_path (drop l.number-index l.path) (tree l.t)
