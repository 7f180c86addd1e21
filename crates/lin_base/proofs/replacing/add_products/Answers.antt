use Rattle.std.proofs.Common.{◌≡◌, ◌∙◌, ap, subst, ◌++◌, arith, Err, None, ℤ, false}
use Rattle.std.proofs.lemmas.Int.{to_z-of_z}
use Rattle.std.proofs.lemmas.Grind.{common_steps}
use Rattle.lin_base.specs.declared.sums.Lin.{Lin}
use Rattle.lin_base.specs.Sum.{scale, add, has_unknown}
use Rattle.lin_base.specs.Steps.{scale_steps, add_steps, first_wide, IsErrorAt, Forms}
use Rattle.lin_base.proofs.Forming.{Forms-err, Forms-after, IsErrorAt-append_some, IsErrorAt-append_none, first_wide-append_none}
use Rattle.lin_base.proofs.Lookup.{has_unknown-scale}
use Rattle.lin_base.proofs.replacing.add_products.Goals as goal

pub returns-in_err-left-clause-sum : goal.returns-in_err-left-clause-sum
returns-in_err-left-clause-sum c =
    let left = scale_steps c.args.b c.args.t.now in
    let right = scale_steps c.args.a c.args.u.now in
    let last = add_steps (scale c.args.b c.args.t.now) (scale c.args.a c.args.u.now) in
    let e = c.in_err-left.field-0.0 in
    let P : ℤ → Type 0 = λ k. IsErrorAt e (first_wide (scale_steps k c.args.t.now)) in
    let at = subst P (to_z-of_z _ _ c.ranges.b) c.in_err-left.ensures.product.1 in
    let is : c.from_residual.result ≡ Err e = grind (arith, common_steps) in
    Forms-err _ e (left ++ right ++ last) (add (scale c.args.b c.args.t.now) (scale c.args.a c.args.u.now)) is (IsErrorAt-append_some e (left ++ right) last (IsErrorAt-append_some e left right at))

pub returns-in_err-right-clause-sum : goal.returns-in_err-right-clause-sum
returns-in_err-right-clause-sum c =
    let left = scale_steps c.args.b c.args.t.now in
    let right = scale_steps c.args.a c.args.u.now in
    let last = add_steps (scale c.args.b c.args.t.now) (scale c.args.a c.args.u.now) in
    let e = c.in_err-right.field-0.0 in
    let P : ℤ → Type 0 = λ k. IsErrorAt e (first_wide (scale_steps k c.args.u.now)) in
    let at = subst P (to_z-of_z _ _ c.ranges.a) c.in_err-right.ensures.product.1 in
    let Q : ℤ → Type 0 = λ k. first_wide (scale_steps k c.args.t.now) ≡ None in
    let narrow = subst Q (to_z-of_z _ _ c.ranges.b) c.in_ok-left.ensures.product.0.0 in
    let is : c.from_residual-in_err-right.result ≡ Err e = grind (arith, common_steps) in
    Forms-err _ e (left ++ right ++ last) (add (scale c.args.b c.args.t.now) (scale c.args.a c.args.u.now)) is (IsErrorAt-append_some e (left ++ right) last (IsErrorAt-append_none e left right narrow at))

pub returns-clause-sum : goal.returns-clause-sum
returns-clause-sum c =
    let t = c.args.t.now in
    let u = c.args.u.now in
    let left = scale_steps c.args.b t in
    let right = scale_steps c.args.a u in
    let b = to_z-of_z _ _ c.ranges.b in
    let a = to_z-of_z _ _ c.ranges.a in
    let Q : ℤ → Type 0 = λ k. first_wide (scale_steps k t) ≡ None in
    let R : ℤ → Type 0 = λ k. first_wide (scale_steps k u) ≡ None in
    let narrow = subst Q b c.in_ok-left.ensures.product.0.0 in
    let narrow_right = subst R a c.in_ok-right.ensures.product.0.0 in
    let is = c.in_ok-left.ensures.product.0.1 ∙ ap (λ k. scale k t) b in
    let is_right = c.in_ok-right.ensures.product.0.1 ∙ ap (λ k. scale k u) a in
    let S : Lin → Type 0 = λ l. Forms c.add.result (add_steps l c.in_ok-right.right) (add l c.in_ok-right.right) in
    let T : Lin → Type 0 = λ r. Forms c.add.result (add_steps (scale c.args.b t) r) (add (scale c.args.b t) r) in
    let sum = subst T is_right (subst S is c.add.ensures.sum) in
    Forms-after c.add.result (left ++ right) _ _ (first_wide-append_none left right narrow ∙ narrow_right) sum

pub returns-clause-memory : goal.returns-clause-memory
returns-clause-memory c = λ h g.
    let left : has_unknown c.in_ok-left.left ≡ false = ap has_unknown c.in_ok-left.ensures.product.0.1 ∙ has_unknown-scale _ c.args.t.now h in
    let right : has_unknown c.in_ok-right.right ≡ false = ap has_unknown c.in_ok-right.ensures.product.0.1 ∙ has_unknown-scale _ c.args.u.now g in
    c.add.ensures.memory left right
