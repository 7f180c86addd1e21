use Rattle.std.proofs.Common.{◌≡◌, ◌∙◌, sym, ap, [], map, drop, length, suc, ◌+◌, ◌<◌, arith, rules}
use Rattle.std.proofs.lemmas.Grind.{common_steps}
use Rattle.term_base.specs.Trees.{tree, trees}
use Rattle.term_order.specs.Standing.{above_if}
use Rattle.term_order.specs.Parts.{equal_if, arguments, behind, some_of, above_each, by_lists}
use Rattle.term_order.proofs.PartLemmas.{arguments-App, behind-none, behind-trees, lists_above, lists_end, lists_neither, lists_none, of_variable, over_variable, of_smaller, of_larger, of_level}
use Rattle.term_order.proofs.deciding.+standing.Goals as goal

pub standing-returns-then-is_variable : goal.standing-returns-then-is_variable
standing-returns-then-is_variable t c =
    c.equal_if.ensures ∙ ap equal_if c.eq.ensures ∙ sym (of_variable c.args.signature.now (tree c.args.s.now) (tree c.args.t.now) c.if-is_variable.ensures)

pub standing-returns-then-is_variable-2 : goal.standing-returns-then-is_variable-2
standing-returns-then-is_variable-2 t c =
    c.above_if.ensures ∙ ap above_if c.is_above_variable.ensures
    ∙ sym (over_variable c.args.signature.now (tree c.args.s.now) (tree c.args.t.now) c.if-is_variable.ensures c.if-is_variable-2.ensures)

pub each_from-returns : goal.each_from-returns
each_from-returns t c =
    let over : drop c.loop-y.y-index c.as_slice-y-items.result.now ≡ [] = grind (arith, common_steps) in
    sym (c.loop-y.invariant
    ∙ ap (λ us. above_each c.args.signature.now (tree c.args.s.now) (behind c.loop-y.skip (trees (map tree us)))) over
    ∙ ap (above_each c.args.signature.now (tree c.args.s.now)) (behind-none c.loop-y.skip))

pub some_from-returns : goal.some_from-returns
some_from-returns t c =
    let over : drop c.loop-x.x-index c.as_slice-x-items.result.now ≡ [] = grind (arith, common_steps) in
    sym (c.loop-x.invariant
    ∙ ap (λ us. some_of c.args.signature.now (behind c.loop-x.skip (trees (map tree us))) (tree c.args.t.now)) over
    ∙ ap (λ us. some_of c.args.signature.now us (tree c.args.t.now)) (behind-none c.loop-x.skip))

pub by_lists-returns-in_default-rest : goal.by_lists-returns-in_default-rest
by_lists-returns-in_default-rest t c =
    let S = c.args.signature.now in
    let s = tree c.args.s.now in
    let u = tree c.args.t.now in
    let xs = c.as_slice-x-items.result.now in
    let i = c.loop-x.x-index in
    let some : 0 < length (drop i xs) = grind (arith, common_steps) in
    let args : arguments s ≡ trees (map tree xs) = arguments-App c.args.s.now c.in-App.field-0 c.in-App.xs xs c.in-App.is (search rules) in
    c.above_if.ensures
    ∙ ap above_if (c.some_from.ensures ∙ ap (λ k. some_of S (behind k (arguments s)) u) c.loop-x.invariant.counted
    ∙ ap (λ a. some_of S (behind i a) u) args ∙ ap (λ a. some_of S a u) (behind-trees i xs))
    ∙ sym (c.loop-x.invariant.same ∙ lists_end S s u (drop i xs) c.loop-x.rest.now some c.in_default-rest.len_below)

pub by_lists-returns-in-Above : goal.by_lists-returns-in-Above
by_lists-returns-in-Above t c =
    let S = c.args.signature.now in
    let s = tree c.args.s.now in
    let u = tree c.args.t.now in
    let xs = c.as_slice-x-items.result.now in
    let ys = c.as_slice-rest.result.now in
    let i = c.loop-x.x-index in
    let args : arguments u ≡ trees (map tree ys) = arguments-App c.args.t.now c.in-App-t.field-0 c.in-App-t.ys ys c.in-App-t.is (search rules) in
    let next : c.loop-x.passed + 1 ≡ suc i = omega (arith, c.loop-x.invariant.counted) in
    c.above_if-in-Above.ensures
    ∙ ap above_if (c.each_from.ensures ∙ ap (λ k. above_each S s (behind k (arguments u))) next ∙ ap (λ a. above_each S s (behind (suc i) a)) args)
    ∙ sym (c.loop-x.invariant.same
    ∙ lists_above S s u xs ys c.loop-x.rest.now i c.x-item.result c.y-item.result c.loop-x-test.true c.x-item.is c.in-len1-up.len_at_least c.y-item.is
    c.loop-x.invariant.beside (sym c.standing.ensures ∙ c.in-Above.is))

pub by_lists-returns-in-Neither : goal.by_lists-returns-in-Neither
by_lists-returns-in-Neither t c =
    let S = c.args.signature.now in
    let s = tree c.args.s.now in
    let u = tree c.args.t.now in
    let xs = c.as_slice-x-items.result.now in
    let ys = c.as_slice-rest.result.now in
    let i = c.loop-x.x-index in
    let args : arguments s ≡ trees (map tree xs) = arguments-App c.args.s.now c.in-App.field-0 c.in-App.xs xs c.in-App.is (search rules) in
    let next : c.loop-x.passed + 1 ≡ suc i = omega (arith, c.loop-x.invariant.counted) in
    c.above_if-in-Neither.ensures
    ∙ ap above_if (c.some_from-in-Neither.ensures ∙ ap (λ k. some_of S (behind k (arguments s)) u) next ∙ ap (λ a. some_of S (behind (suc i) a) u) args)
    ∙ sym (c.loop-x.invariant.same
    ∙ lists_neither S s u xs ys c.loop-x.rest.now i c.x-item.result c.y-item.result c.loop-x-test.true c.x-item.is c.in-len1-up.len_at_least c.y-item.is
    c.loop-x.invariant.beside (sym c.standing.ensures ∙ c.in-Neither.is))

pub by_lists-returns-else-is_empty : goal.by_lists-returns-else-is_empty
by_lists-returns-else-is_empty t c =
    let S = c.args.signature.now in
    let s = tree c.args.s.now in
    let u = tree c.args.t.now in
    let rest = c.loop-x.rest.now in
    let over : drop c.loop-x.x-index c.as_slice-x-items.result.now ≡ [] = grind (arith, common_steps) in
    sym (c.loop-x.invariant.same ∙ ap (λ ts. by_lists S s u (trees (map tree ts)) (trees (map tree rest))) over ∙ lists_none S s u rest c.if-is_empty.ensures)

pub standing-returns-then-has_smaller_head : goal.standing-returns-then-has_smaller_head
standing-returns-then-has_smaller_head t c =
    c.above_if-then-has_smaller_head.ensures ∙ ap above_if c.some_argument.ensures
    ∙ sym (of_smaller c.args.signature.now (tree c.args.s.now) (tree c.args.t.now) c.if-has_smaller_head.ensures)

pub standing-returns-then-has_smaller_head-2 : goal.standing-returns-then-has_smaller_head-2
standing-returns-then-has_smaller_head-2 t c =
    c.above_if-then-has_smaller_head-2.ensures ∙ ap above_if c.each_argument.ensures
    ∙ sym (of_larger c.args.signature.now (tree c.args.s.now) (tree c.args.t.now) c.if-has_smaller_head.ensures c.if-has_smaller_head-2.ensures)

pub standing-returns : goal.standing-returns
standing-returns t c =
    c.by_arguments.ensures
    ∙ sym (of_level c.args.signature.now (tree c.args.s.now) (tree c.args.t.now) c.if-is_variable.ensures c.if-is_variable-2.ensures c.if-has_smaller_head.ensures c.if-has_smaller_head-2.ensures)
