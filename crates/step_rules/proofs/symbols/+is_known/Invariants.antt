use Rattle.std.proofs.Common.{◌≡◌, map, drop}
use Rattle.term_base.specs.Trees.{tree, trees}
use Rattle.step_rules.specs.Symbols.{is_known, are_known}
use Rattle.step_rules.proofs.symbols.+is_known.Given as goal

abbrev pub invariant-loop-arg : goal.invariant-loop-arg
invariant-loop-arg l = is_known l.n (tree l.t) ≡ are_known l.n (trees (map tree (drop l.arg-index l.arg-items)))
