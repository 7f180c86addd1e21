use Rattle.std.proofs.Common.{◌∙◌, ◌++◌, ◌+◌, ◌∷◌, [], sym, ap, drop, List}
use Rattle.term_base.specs.declared.variables.Variable.{Variable}
use Rattle.term_base.specs.Same.{same_variable}
use Rattle.unifier.specs.Variables.{without}
use Rattle.unifier.proofs.SearchLemmas.{next_kept, next_left}
use Rattle.unifier.proofs.variables.without.Goals as goal
use Rattle.unifier.proofs.variables.without.Goals.{then-not-is_same+in_ok-push, else-not-is_same}

pub loop-w-preserved : goal.loop-w-preserved
loop-w-preserved c = elim c.if-not-is_same.branch [
  | then-not-is_same+in_ok-push w ↦
      ap (λ r. r.items ++ without c.args.v (drop (c.loop-w.w-index + 1) c.args.list.now)) w.rest-is
      ∙ ap (λ (l : List Variable). l ++ without c.args.v (drop (c.loop-w.w-index + 1) c.args.list.now)) w.in_ok-push.ensures.items
      ∙ ap (λ x. (c.loop-w.rest.items ++ x ∷ []) ++ without c.args.v (drop (c.loop-w.w-index + 1) c.args.list.now)) c.w-item.is
      ∙ next_kept c.args.v c.loop-w.rest.items c.args.list.now _ c.loop-w.w-index c.w-item.result c.loop-w-test.true
      (ap (same_variable c.args.v) (sym c.w-item.is) ∙ sym c.is_same.ensures ∙ w.if-not-is_same.true) c.loop-w.invariant
  | else-not-is_same w ↦
      ap (λ r. r.items ++ without c.args.v (drop (c.loop-w.w-index + 1) c.args.list.now)) w.rest-is
      ∙ next_left c.args.v c.loop-w.rest.items c.args.list.now _ c.loop-w.w-index c.w-item.result c.loop-w-test.true
      (ap (same_variable c.args.v) (sym c.w-item.is) ∙ sym c.is_same.ensures ∙ w.if-not-is_same.false) c.loop-w.invariant
]
