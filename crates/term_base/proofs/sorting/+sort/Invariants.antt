use Rattle.std.proofs.Common.{◌≡◌, map, drop}
use Rattle.term_base.specs.Sorting as spec
use Rattle.term_base.specs.Trees.{tree, trees}
use Rattle.term_base.proofs.sorting.+sort.Given as goal

abbrev pub invariant-have_sorts-loop-term : goal.invariant-have_sorts-loop-term
invariant-have_sorts-loop-term l =
    spec.have_sorts (spec.sorts l.signature (trees (map tree l.terms))) l.fn.sorts
    ≡ spec.have_sorts (spec.sorts l.signature (trees (map tree (drop l.term-index l.terms)))) l.rest
