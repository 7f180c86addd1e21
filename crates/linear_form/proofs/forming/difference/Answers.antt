use Rattle.std.proofs.Common.{map, subst, arith}
use Rattle.std.proofs.lemmas.Grind.{common_steps}
use Rattle.term_base.specs.Trees.{tree}
use Rattle.lin_base.specs.declared.sums.Lin.{Lin}
use Rattle.lin_base.specs.Steps.{Forms}
use Rattle.linear_form.specs.Linear.{linear_in, subtract_steps, subtracted}
use Rattle.linear_form.proofs.LinearForms.{first_fails, second_fails, last_answers}
use Rattle.linear_form.proofs.forming.difference.Goals as goal

pub returns-in_err-left-clause-sum : goal.returns-in_err-left-clause-sum
returns-in_err-left-clause-sum c =
    let n = map tree c.args.terms.now in
    first_fails _ (linear_in n (tree c.args.s.now)).steps (linear_in n (tree c.args.t.now)).steps _ _ c.in_err-left.field-0.0 (grind (arith, common_steps)) c.in_err-left.ensures.sum.1

pub returns-in_err-right-clause-sum : goal.returns-in_err-right-clause-sum
returns-in_err-right-clause-sum c =
    let n = map tree c.args.terms.now in
    second_fails _ (linear_in n (tree c.args.s.now)).steps (linear_in n (tree c.args.t.now)).steps _ _ c.in_err-right.field-0.0 (grind (arith, common_steps)) c.in_ok-left.ensures.sum.0.0 c.in_err-right.ensures.sum.1

pub returns-clause-sum : goal.returns-clause-sum
returns-clause-sum c =
    let n = map tree c.args.terms.now in
    let P : Lin → Type 0 = λ u. Forms c.subtract.result (subtract_steps u c.in_ok-right.right) (subtracted u c.in_ok-right.right) in
    let Q : Lin → Type 0 = λ u. Forms c.subtract.result (subtract_steps (linear_in n (tree c.args.s.now)).sum u) (subtracted (linear_in n (tree c.args.s.now)).sum u) in
    last_answers _ (linear_in n (tree c.args.s.now)).steps (linear_in n (tree c.args.t.now)).steps _ _ c.in_ok-left.ensures.sum.0.0 c.in_ok-right.ensures.sum.0.0
    (subst Q c.in_ok-right.ensures.sum.0.1 (subst P c.in_ok-left.ensures.sum.0.1 c.subtract.ensures.sum))
