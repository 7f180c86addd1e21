use Rattle.std.proofs.Common.{◌≡◌, ◌∙◌, ap, sym, subst, ◌++◌, arith, ℤ, Err, Some, None, to_z, of_z}
use Rattle.std.specs.Int.{w128}
use Rattle.std.proofs.lemmas.Int.{to_z-of_z}
use Rattle.std.proofs.lemmas.Grind.{common_steps}
use Rattle.lin_base.specs.declared.sums.Lin.{Lin}
use Rattle.lin_base.specs.declared.wides.ArithmeticError.TheVariants.{Wide as TooWide}
use Rattle.lin_base.specs.Fact.{sum_of}
use Rattle.lin_base.specs.Change.{replace_in, replaced, remade}
use Rattle.lin_base.specs.Steps.{replace_in_steps, modulus_steps, first_wide, IsErrorAt}
use Rattle.lin_base.proofs.Forming.{Forms-err, IsErrorAt-append_some, first_wide-append_none, formed_by-ok, formed_by-err}
use Rattle.lin_base.proofs.replacing.replace_occurring.Goals as goal

pub returns-in_err-sum-clause-fact : goal.returns-in_err-sum-clause-fact
returns-in_err-sum-clause-fact c =
    let x = c.args.x in
    let t = c.args.t.now in
    let f = c.args.fact.now in
    let e = c.in_err-sum.field-0.0 in
    let steps = replace_in_steps x c.args.a t (sum_of f) in
    let P : ℤ → Lin → Type 0 = λ a s. IsErrorAt e (first_wide (replace_in_steps x a t s)) in
    let told : P (to_z w128 (of_z w128 c.args.a)) c.sum.result.now = c.in_err-sum.ensures.sum.1 in
    let Q : ℤ → Type 0 = λ a. P a c.sum.result.now in
    let R : Lin → Type 0 = λ s. P c.args.a s in
    let at = subst R c.sum.ensures (subst Q (to_z-of_z _ _ c.ranges.a) told) in
    let is : c.from_residual.result ≡ Err e = grind (arith, common_steps) in
    Forms-err _ e (steps ++ modulus_steps c.args.a f) (replaced x c.args.a t f) is (IsErrorAt-append_some e steps (modulus_steps c.args.a f) at)

pub returns-in_err-with_sum-clause-fact : goal.returns-in_err-with_sum-clause-fact
returns-in_err-with_sum-clause-fact c =
    let x = c.args.x in
    let t = c.args.t.now in
    let f = c.args.fact.now in
    let w = c.in_err-with_sum.field-0.0 in
    let steps = replace_in_steps x c.args.a t (sum_of f) in
    let k = to_z-of_z _ _ c.ranges.a in
    let P : ℤ → Lin → Type 0 = λ a s. first_wide (replace_in_steps x a t s) ≡ None in
    let told : P (to_z w128 (of_z w128 c.args.a)) c.sum.result.now = c.in_ok-sum.ensures.sum.0.0 in
    let Q : ℤ → Type 0 = λ a. P a c.sum.result.now in
    let R : Lin → Type 0 = λ s. P c.args.a s in
    let narrow = subst R c.sum.ensures (subst Q k told) in
    let wide = formed_by-err (modulus_steps (to_z w128 (of_z w128 c.args.a)) f) (remade (to_z w128 (of_z w128 c.args.a)) c.in_ok-sum.sum f) w (sym c.with_sum.ensures ∙ c.in_err-with_sum.was) in
    let at : first_wide (modulus_steps c.args.a f) ≡ Some w = ap (λ a. first_wide (modulus_steps a f)) (sym k) ∙ wide in
    let is : c.from_residual-in_err-with_sum.result ≡ Err (TooWide w) = grind (arith, common_steps) in
    Forms-err _ (TooWide w) (steps ++ modulus_steps c.args.a f) (replaced x c.args.a t f) is (first_wide-append_none steps (modulus_steps c.args.a f) narrow ∙ at)

pub returns-clause-fact : goal.returns-clause-fact
returns-clause-fact c =
    let x = c.args.x in
    let t = c.args.t.now in
    let f = c.args.fact.now in
    let steps = replace_in_steps x c.args.a t (sum_of f) in
    let k = to_z-of_z _ _ c.ranges.a in
    let P : ℤ → Lin → Type 0 = λ a s. first_wide (replace_in_steps x a t s) ≡ None in
    let told : P (to_z w128 (of_z w128 c.args.a)) c.sum.result.now = c.in_ok-sum.ensures.sum.0.0 in
    let Q : ℤ → Type 0 = λ a. P a c.sum.result.now in
    let R : Lin → Type 0 = λ s. P c.args.a s in
    let narrow = subst R c.sum.ensures (subst Q k told) in
    let made = formed_by-ok (modulus_steps (to_z w128 (of_z w128 c.args.a)) f) (remade (to_z w128 (of_z w128 c.args.a)) c.in_ok-sum.sum f) c.in_ok-with_sum.field-0 (sym c.with_sum.ensures ∙ c.in_ok-with_sum.was) in
    let at : first_wide (modulus_steps c.args.a f) ≡ None = ap (λ a. first_wide (modulus_steps a f)) (sym k) ∙ made.0 in
    let sum : c.in_ok-sum.sum ≡ replace_in x c.args.a t (sum_of f) = c.in_ok-sum.ensures.sum.0.1 ∙ ap (λ a. replace_in x a t c.sum.result.now) k ∙ ap (replace_in x c.args.a t) c.sum.ensures in
    ((first_wide-append_none steps (modulus_steps c.args.a f) narrow ∙ at, made.1 ∙ ap (λ a. remade a c.in_ok-sum.sum f) k ∙ ap (λ s. remade c.args.a s f) sum), tt)
