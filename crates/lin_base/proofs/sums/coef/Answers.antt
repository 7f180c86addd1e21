use Rattle.std.proofs.Common.{◌≡◌, arith, ap, sym, ◌∙◌, get_or, drop, pos}
use Rattle.std.proofs.lemmas.Int.{to_z-of_z}
use Rattle.std.proofs.lemmas.Grind.{common_steps}
use Rattle.lin_base.specs.Sum.{coef_in}
use Rattle.lin_base.proofs.Lookup.{coef_in-drop}
use Rattle.lin_base.proofs.sums.coef.Goals as goal

pub returns-then-term-x : goal.returns-then-term-x
returns-then-term-x c =
    let ts = c.as_slice-term-items.result.now in
    let i = c.loop-term.term-index in
    let first = coef_in-drop ts i c.loop-term.invariant.ascending c.loop-term-test.true in
    let at : coef_in c.args.x (drop i ts) ≡ (get_or ts i (0, pos 0)).1 = ap (λ x. coef_in x (drop i ts)) (sym c.if-term-x.true) ∙ first in
    grind (arith, common_steps, to_z-of_z)
