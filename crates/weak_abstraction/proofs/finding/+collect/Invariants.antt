use Rattle.std.proofs.Common.{◌≡◌, ◌+◌, ◌*◌, map, drop, fold}
use Rattle.term_base.specs.declared.terms.Term.{size-Term}
use Rattle.term_base.specs.Trees.{tree, trees}
use Rattle.weak_abstraction.specs.Targets.{each_as, each_mixed, targets_below, targets_of_each}
use Rattle.weak_abstraction.specs.Abstracted.{add_new}
use Rattle.weak_abstraction.specs.Keys.{terms}
use Rattle.weak_abstraction.proofs.finding.+collect.Given as goal

abbrev pub decreases-collect : goal.decreases-collect
decreases-collect l = 2 * size-Term l.t.now + 1

abbrev pub decreases-collect_below : goal.decreases-collect_below
decreases-collect_below l = 2 * size-Term l.t.now

abbrev pub invariant-collect_below-loop-arg : goal.invariant-collect_below-loop-arg
invariant-collect_below-loop-arg l =
    let rest = trees (map tree (drop l.arg-index l.arg-items)) in
    fold add_new (terms l.found.keys) (targets_of_each l.signature rest (each_as l.counts (each_mixed l.signature rest)))
    ≡ fold add_new (terms l.initial.found.keys) (targets_below l.signature (tree l.t))
