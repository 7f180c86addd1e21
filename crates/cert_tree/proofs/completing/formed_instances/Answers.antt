use Rattle.std.proofs.Common.{◌≡◌, subst, sym, pos, ◌≤ℤ◌, true, List, ℕ, map, Err, arith}
use Rattle.std.specs.Prelude.{◌*ℤ◌}
use Rattle.std.specs.List.{flat_map}
use Rattle.std.proofs.lemmas.Grind.{common_steps}
use Rattle.lin_base.specs.declared.wides.ArithmeticError.{ArithmeticError}
use Rattle.lin_base.specs.Steps.{Forms, first_wide, IsErrorAt}
use Rattle.lin_base.proofs.Forming.{Forms-after, Forms-err, IsErrorAt-append_some}
use Rattle.cert_tree.specs.declared.test_points.Bound.{Bound}
use Rattle.cert_tree.specs.Bounds.{is_side}
use Rattle.lin_base.specs.Sum.{above}
use Rattle.cert_tree.specs.Counting.{numbers_below}
use Rattle.cert_tree.specs.Complete.{above_bound_steps, moved_steps, moved_instance, instances_steps, instances_at}
use Rattle.cert_tree.proofs.Pointing.{side_positive}
use Rattle.cert_tree.proofs.Completion.{below_abs, product_up, is_side-above}
use Rattle.cert_tree.proofs.completing.formed_instances.Goals as goal

pub formed_instances_at-requires-clause-bound : goal.formed_instances_at-requires-clause-bound
formed_instances_at-requires-clause-bound c =
    let x = c.args.x in
    let P : Bound → Type 0 = λ k. is_side x k.side ≡ true in
    subst P (sym c.in_ok-bound.ensures.0.1) (is_side-above x c.args.side.now c.requires.side)

pub returns-in_err-bound : goal.returns-in_err-bound
returns-in_err-bound c =
    let x = c.args.x in
    let fs = c.args.clause.now in
    let d = c.args.d.now in
    let b = c.args.side.now.b in
    let u = c.args.side.now.rest in
    let e = c.in_err-bound.field-0.0 in
    let is : c.from_residual.result ≡ Err e = grind (arith, common_steps) in
    Forms-err _ e (instances_steps x fs d b u) (instances_at x fs d b u) is (IsErrorAt-append_some e (above_bound_steps d b u) (flat_map (moved_steps x fs b (above u)) (numbers_below (b *ℤ d))) c.in_err-bound.ensures.1)

pub returns-in_err-length : goal.returns-in_err-length
returns-in_err-length c =
    let x = c.args.x in
    let fs = c.args.clause.now in
    let d = c.args.d.now in
    let b = c.args.side.now.b in
    let u = c.args.side.now.rest in
    let e = c.in_err-length.field-0.0 in
    let is : c.from_residual-in_err-length.result ≡ Err e = grind (arith, common_steps) in
    let P : ArithmeticError → Type 0 = λ f. IsErrorAt f (first_wide (instances_steps x fs d b u)) in
    Forms-err _ e (instances_steps x fs d b u) (instances_at x fs d b u) is (subst P (sym c.in_err-length.ensures.memory) tt)

pub returns : goal.returns
returns c =
    let x = c.args.x in
    let fs = c.args.clause.now in
    let d = c.args.d.now in
    let b = c.args.side.now.b in
    let u = c.args.side.now.rest in
    let r = c.formed_instances_at.result in
    let made = c.in_ok-bound.bound in
    let told = c.in_ok-bound.ensures.0.1 in
    let up = let U : Bound → Type 0 = λ k. pos 1 ≤ℤ k.children in subst U (sym told) (product_up b d (side_positive x c.args.side.now c.requires.side) c.requires.d) in
    let P : List ℕ → Type 0 = λ js. Forms r (flat_map (moved_steps x fs made.side.b made.side.rest) js) (map (moved_instance x fs made.side.b made.side.rest) js) in
    let Q : Bound → Type 0 = λ k. Forms r (flat_map (moved_steps x fs k.side.b k.side.rest) (numbers_below k.children)) (map (moved_instance x fs k.side.b k.side.rest) (numbers_below k.children)) in
    let formed = subst Q told (subst P (below_abs made.children c.in_ok-length.length up c.in_ok-length.ensures.value) c.formed_instances_at.ensures) in
    Forms-after r (above_bound_steps d b u) (flat_map (moved_steps x fs b (above u)) (numbers_below (b *ℤ d))) (instances_at x fs d b u) c.in_ok-bound.ensures.0.0 formed
