use Rattle.std.proofs.Common.{◌≡◌, ◌+◌, ◌*◌, map, drop}
use Rattle.term_base.specs.declared.terms.Term.{size-Term}
use Rattle.term_base.specs.Trees.{tree, trees}
use Rattle.term_order.specs.Parts as part
use Rattle.term_order.proofs.deciding.+standing.Given as goal

abbrev pub decreases-standing : goal.decreases-standing
decreases-standing l = 4 * (size-Term l.s.now + size-Term l.t.now) + 3

abbrev pub decreases-some_argument : goal.decreases-some_argument
decreases-some_argument l = 4 * (size-Term l.s.now + size-Term l.t.now) + 2

abbrev pub decreases-each_argument : goal.decreases-each_argument
decreases-each_argument l = 4 * (size-Term l.s.now + size-Term l.t.now) + 2

abbrev pub decreases-by_arguments : goal.decreases-by_arguments
decreases-by_arguments l = 4 * (size-Term l.s.now + size-Term l.t.now) + 2

abbrev pub decreases-by_lists : goal.decreases-by_lists
decreases-by_lists l = 4 * (size-Term l.s.now + size-Term l.t.now) + 1

abbrev pub decreases-some_from : goal.decreases-some_from
decreases-some_from l = 4 * (size-Term l.s.now + size-Term l.t.now)

abbrev pub decreases-each_from : goal.decreases-each_from
decreases-each_from l = 4 * (size-Term l.s.now + size-Term l.t.now)

abbrev pub invariant-some_from-loop-x : goal.invariant-some_from-loop-x
invariant-some_from-loop-x l =
    part.some_of l.signature (part.behind l.left_out (part.arguments (tree l.s))) (tree l.t)
    ≡ part.some_of l.signature (part.behind l.skip (trees (map tree (drop l.x-index l.x-items)))) (tree l.t)

abbrev pub invariant-each_from-loop-y : goal.invariant-each_from-loop-y
invariant-each_from-loop-y l =
    part.above_each l.signature (tree l.s) (part.behind l.left_out (part.arguments (tree l.t)))
    ≡ part.above_each l.signature (tree l.s) (part.behind l.skip (trees (map tree (drop l.y-index l.y-items))))

abbrev pub invariant-by_lists-loop-x : goal.invariant-by_lists-loop-x
invariant-by_lists-loop-x l = record {
  same : part.by_lists l.signature (tree l.s) (tree l.t) (part.arguments (tree l.s)) (part.arguments (tree l.t))
      ≡ part.by_lists l.signature (tree l.s) (tree l.t) (trees (map tree (drop l.x-index l.x-items))) (trees (map tree l.rest));
  beside : l.rest ≡ drop l.x-index l.initial.rest;
  counted : l.passed ≡ l.x-index;
}
