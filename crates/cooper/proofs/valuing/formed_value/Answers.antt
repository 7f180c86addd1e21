use Rattle.std.proofs.Common.{◌≡◌, sym, ◌∙◌, ap, subst, ◌+ℤ◌, ◌*ℤ◌, ℤ, pos, None, [], ◌∷◌, ◌+◌, drop, get_or, arith, to_z, of_z}
use Rattle.std.specs.Int.{w128}
use Rattle.std.proofs.Math.IntN.{+ℤ_assoc}
use Rattle.std.proofs.lemmas.Int.{to_z-of_z}
use Rattle.std.proofs.lemmas.List.{at_drop_more}
use Rattle.std.proofs.lemmas.Grind.{common_steps}
use Rattle.lin_base.specs.Sum.{value_of_terms}
use Rattle.lin_base.specs.Steps.{first_wide, adds, multiplies, value_steps_from}
use Rattle.lin_base.proofs.Forming.{first_wide-append_none}
use Rattle.cooper.specs.Walks.{valuation_of}
use Rattle.cooper.proofs.valuing.formed_value.Goals as goal

pub loop-term-preserved : goal.loop-term-preserved
loop-term-preserved c =
    let v = valuation_of c.args.values.now in
    let xs = c.as_slice-term-items.result.now in
    let i = c.loop-term.term-index in
    let y = get_or xs i (0, pos 0) in
    let a = y.1 *ℤ v y.0 in
    let constant = c.args.t.now.constant in
    let rest = drop (i + 1) xs in
    let s = to_z w128 c.loop-term.so_far-bits in
    let next = c.in_ok-so_far.so_far in
    let e1 : to_z w128 (of_z w128 next) ≡ next = grind (arith, common_steps, to_z-of_z) in
    let Told : ℤ → Type 0 = λ z. (first_wide (multiplies y.1 (v y.0) ∷ adds z a ∷ []) ≡ None) × (next ≡ z +ℤ a) in
    let told : Told s = c.in_ok-so_far.ensures.0 in
    let is : to_z w128 (of_z w128 next) ≡ s +ℤ a = e1 ∙ told.1 in
    let N : ℤ → Type 0 = λ z. first_wide (value_steps_from v (pos 0) xs constant) ≡ first_wide (value_steps_from v z rest constant) in
    record {
      narrow = subst N (sym is)
          (c.loop-term.invariant.narrow
          ∙ ap first_wide (at_drop_more (λ us. value_steps_from v s us constant) xs i (0, pos 0) c.loop-term-test.true)
          ∙ first_wide-append_none (multiplies y.1 (v y.0) ∷ adds s a ∷ []) (value_steps_from v (s +ℤ a) rest constant) told.0);
      value = ap (λ z. z +ℤ value_of_terms v rest) is ∙ +ℤ_assoc s a (value_of_terms v rest) ∙ ap (λ z. s +ℤ z) (sym (at_drop_more (value_of_terms v) xs i (0, pos 0) c.loop-term-test.true)) ∙ c.loop-term.invariant.value;
    }
