use Rattle.std.proofs.Common.{◌≡◌, map, drop}
use Rattle.term_base.specs.Trees.{tree, trees}
use Rattle.define_rule.specs.NextTerm.{are_flat}
use Rattle.define_rule.proofs.definitions.are_flat.Given as goal

abbrev pub invariant-loop-arg : goal.invariant-loop-arg
invariant-loop-arg l = are_flat l.signature (trees (map tree l.args)) ≡ are_flat l.signature (trees (map tree (drop l.arg-index l.args)))
