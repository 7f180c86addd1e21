use Rattle.std.proofs.Common.{◌≡◌, sym, subst, Err, arith, length, true}
use Rattle.std.proofs.lemmas.Grind.{common_steps}
use Rattle.lin_base.specs.Numbers.{results}
use Rattle.cert_tree.specs.declared.test_points.Bound.{Bound}
use Rattle.cert_tree.specs.Bounds.{is_side}
use Rattle.cert_tree.specs.Complete.{instances_steps}
use Rattle.cert_tree.proofs.Pointing.{side_positive}
use Rattle.cert_tree.proofs.Completion.{product_up, is_side-above}
use Rattle.cooper_rows.specs.Counted.{of_arithmetic}
use Rattle.cooper_rows.specs.Rows.{bound_rows}
use Rattle.cooper_rows.proofs.Budgets.{counted_err}
use Rattle.cooper_rows.proofs.CompleteRows.{bound_err, take_err, made_err, instances_ok}
use Rattle.cooper_rows.proofs.completing.instances.Goals as goal

pub formed_instances_at-requires-clause-bound : goal.formed_instances_at-requires-clause-bound
formed_instances_at-requires-clause-bound c =
    let x = c.args.x in
    let P : Bound → Type 0 = λ k. is_side x k.side ≡ true in
    subst P (sym c.in_ok-bound.ensures.0.1) (is_side-above x c.args.side.now c.requires.side)

pub returns-in_err-bound : goal.returns-in_err-bound
returns-in_err-bound c =
    let n = c.args.number in
    let x = c.args.x in
    let fs = c.args.clause.now in
    let d = c.args.d.now in
    let s = c.args.side.now in
    let e = c.in_err-bound.field-0.0 in
    let m0 = c.args.room.now in
    let is : c.from_residual.result ≡ Err (of_arithmetic e) = grind (arith, common_steps) in
    counted_err _ (of_arithmetic e) m0 m0 (length (bound_rows n x d s)) (results (instances_steps x fs d s.b s.rest)) _ is (bound_err n x fs d s e m0 c.in_err-bound.ensures.1)

pub returns-in_err-take : goal.returns-in_err-take
returns-in_err-take c =
    let n = c.args.number in
    let x = c.args.x in
    let fs = c.args.clause.now in
    let d = c.args.d.now in
    let s = c.args.side.now in
    let e = c.in_err-take.field-0.0 in
    let m0 = c.args.room.now in
    let up = product_up s.b d (side_positive x s c.requires.side) c.requires.d in
    let is : c.from_residual-in_err-take.result ≡ Err e = grind (arith, common_steps) in
    counted_err _ e m0 c.take.new.room (length (bound_rows n x d s)) (results (instances_steps x fs d s.b s.rest)) _ is (take_err n x fs d s e m0 c.in_ok-bound.bound up c.in_ok-bound.ensures.0.1 c.in_err-take.ensures.1)

pub returns-in_err-made : goal.returns-in_err-made
returns-in_err-made c =
    let n = c.args.number in
    let x = c.args.x in
    let fs = c.args.clause.now in
    let d = c.args.d.now in
    let s = c.args.side.now in
    let e = c.in_err-made.field-0.0 in
    let m0 = c.args.room.now in
    let up = product_up s.b d (side_positive x s c.requires.side) c.requires.d in
    let is : c.from_residual-in_err-made.result ≡ Err (of_arithmetic e) = grind (arith, common_steps) in
    counted_err _ (of_arithmetic e) m0 c.take.new.room (length (bound_rows n x d s)) (results (instances_steps x fs d s.b s.rest)) _ is (made_err n x fs d s e m0 c.in_ok-bound.bound c.in_ok-count.count up c.in_ok-bound.ensures.0.1 c.in_ok-bound.ensures.0.0 c.in_ok-count.ensures.value c.in_err-made.ensures.1)

pub returns : goal.returns
returns c =
    let n = c.args.number in
    let x = c.args.x in
    let fs = c.args.clause.now in
    let d = c.args.d.now in
    let s = c.args.side.now in
    let m0 = c.args.room.now in
    let up = product_up s.b d (side_positive x s c.requires.side) c.requires.d in
    (instances_ok n x fs d s c.take.new.room m0 c.in_ok-bound.bound c.in_ok-count.count c.in_ok-made.made up c.in_ok-bound.ensures.0.1 c.in_ok-bound.ensures.0.0 c.in_ok-take.ensures.0.0 c.in_ok-count.ensures.value c.in_ok-made.ensures.0.0 c.in_ok-made.ensures.0.1, tt)
