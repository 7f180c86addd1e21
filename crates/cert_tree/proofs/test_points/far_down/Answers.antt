use Rattle.std.proofs.Common.{sym, subst, pos}
use Rattle.lin_base.specs.declared.facts.Fact.{Fact}
use Rattle.lin_base.specs.Change.{replace}
use Rattle.lin_base.specs.Steps.{Forms, replace_steps}
use Rattle.lin_base.specs.Sum.{number}
use Rattle.cert_tree.specs.Children as spec
use Rattle.cert_tree.proofs.test_points.far_down.Goals as goal

pub returns-in-Zero : goal.returns-in-Zero
returns-in-Zero c =
    let p = c.args.p in
    let j = c.args.j in
    let r = c.put_number.result in
    let P : Fact → Type 0 = λ f. Forms r (spec.far_down_steps p j f) (spec.far_down p j f) in
    let Q : Fact → Type 0 = λ f. Forms r (replace_steps p (pos 1) (number (pos j)) f) (replace p (pos 1) (number (pos j)) f) in
    subst P (sym c.in-Zero.is) (subst Q c.in-Zero.is c.put_number.ensures)

pub returns-in-Divides : goal.returns-in-Divides
returns-in-Divides c =
    let p = c.args.p in
    let j = c.args.j in
    let r = c.put_number-in-Divides.result in
    let P : Fact → Type 0 = λ f. Forms r (spec.far_down_steps p j f) (spec.far_down p j f) in
    let Q : Fact → Type 0 = λ f. Forms r (replace_steps p (pos 1) (number (pos j)) f) (replace p (pos 1) (number (pos j)) f) in
    subst P (sym c.in-Divides.is) (subst Q c.in-Divides.is c.put_number-in-Divides.ensures)

pub returns-in-NotDivides : goal.returns-in-NotDivides
returns-in-NotDivides c =
    let p = c.args.p in
    let j = c.args.j in
    let r = c.put_number-in-NotDivides.result in
    let P : Fact → Type 0 = λ f. Forms r (spec.far_down_steps p j f) (spec.far_down p j f) in
    let Q : Fact → Type 0 = λ f. Forms r (replace_steps p (pos 1) (number (pos j)) f) (replace p (pos 1) (number (pos j)) f) in
    subst P (sym c.in-NotDivides.is) (subst Q c.in-NotDivides.is c.put_number-in-NotDivides.ensures)
