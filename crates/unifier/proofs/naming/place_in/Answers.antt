use Rattle.std.proofs.Common.{◌∙◌, sym, ap, arith}
use Rattle.std.proofs.lemmas.Grind.{common_steps}
use Rattle.term_base.specs.Same.{same_variable}
use Rattle.unifier.proofs.PlaceLemmas.{next_place}
use Rattle.unifier.proofs.naming.place_in.Goals as goal

pub loop-w-preserved : goal.loop-w-preserved
loop-w-preserved c =
    next_place c.args.v c.args.list.now _ c.loop-w.place c.in-Some.next c.loop-w.w-index c.w-item.result c.loop-w-test.true
    (ap (λ w. same_variable w c.args.v) (sym c.w-item.is) ∙ sym c.is_same.ensures ∙ c.if-is_same.false) (grind (arith, common_steps)) c.loop-w.invariant
