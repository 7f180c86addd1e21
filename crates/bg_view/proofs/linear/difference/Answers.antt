use Rattle.std.proofs.Common.{◌≡◌, ◌∙◌, ap, false, subst, arith}
use Rattle.std.proofs.lemmas.Grind.{common_steps}
use Rattle.lin_base.specs.declared.sums.Lin.{Lin}
use Rattle.lin_base.specs.Steps.{Forms}
use Rattle.bg_view.specs.Numbers.{numbering_of}
use Rattle.bg_view.specs.Linear.{linear, subtract_steps, subtracted}
use Rattle.bg_view.proofs.LinearForms.{first_fails, second_fails, last_answers}
use Rattle.lin_base.specs.Sum.{has_unknown as sum_has_unknown}
use Rattle.bg_view.proofs.NoUnknowns.{has_unknown-linear}
use Rattle.bg_view.proofs.linear.difference.Goals as goal

pub returns-in_err-left-clause-sum : goal.returns-in_err-left-clause-sum
returns-in_err-left-clause-sum c =
    let n = numbering_of c.args.unknowns.now in
    first_fails _ (linear n c.args.s.now).steps (linear n c.args.t.now).steps _ _ c.in_err-left.field-0.0 (grind (arith, common_steps)) c.in_err-left.ensures.sum.1

pub returns-in_err-right-clause-sum : goal.returns-in_err-right-clause-sum
returns-in_err-right-clause-sum c =
    let n = numbering_of c.args.unknowns.now in
    second_fails _ (linear n c.args.s.now).steps (linear n c.args.t.now).steps _ _ c.in_err-right.field-0.0 (grind (arith, common_steps)) c.in_ok-left.ensures.sum.0.0 c.in_err-right.ensures.sum.1

pub returns-clause-sum : goal.returns-clause-sum
returns-clause-sum c =
    let n = numbering_of c.args.unknowns.now in
    let P : Lin → Type 0 = λ u. Forms c.subtract.result (subtract_steps u c.in_ok-right.right) (subtracted u c.in_ok-right.right) in
    let Q : Lin → Type 0 = λ u. Forms c.subtract.result (subtract_steps (linear n c.args.s.now).sum u) (subtracted (linear n c.args.s.now).sum u) in
    last_answers _ (linear n c.args.s.now).steps (linear n c.args.t.now).steps _ _ c.in_ok-left.ensures.sum.0.0 c.in_ok-right.ensures.sum.0.0
    (subst Q c.in_ok-right.ensures.sum.0.1 (subst P c.in_ok-left.ensures.sum.0.1 c.subtract.ensures.sum))

pub returns-clause-memory : goal.returns-clause-memory
returns-clause-memory c = λ h g.
    let n = numbering_of c.args.unknowns.now in
    let left : sum_has_unknown c.in_ok-left.left ≡ false = ap sum_has_unknown c.in_ok-left.ensures.sum.0.1 ∙ has_unknown-linear n c.args.s.now h in
    let right : sum_has_unknown c.in_ok-right.right ≡ false = ap sum_has_unknown c.in_ok-right.ensures.sum.0.1 ∙ has_unknown-linear n c.args.t.now g in
    c.subtract.ensures.memory left right
