use Rattle.std.proofs.Common.{◌≡◌, sym, ◌∙◌, ap, arith, [], ◌∷◌, ◌++◌, ◌+◌, ◌-◌, map, append_assoc, to_z, of_z}
use Rattle.std.specs.Int.{w128}
use Rattle.std.proofs.lemmas.Int.{to_z-of_z}
use Rattle.std.proofs.lemmas.Grind.{common_steps}
use Rattle.cert_tree.specs.Counting.{count_from}
use Rattle.cert_tree.proofs.Completion.{count_at}
use Rattle.cooper.specs.Walks.{valuation_of}
use Rattle.cooper.proofs.deciding.parameter_values.Goals as goal

pub loop-p-preserved : goal.loop-p-preserved
loop-p-preserved c =
    let v = valuation_of c.args.values.now in
    let n = c.args.params in
    let p = c.loop-p.p in
    let x = c.value_at.result in
    let made = c.loop-p.made in
    let rest = map v (count_from (p + 1) (n - (p + 1))) in
    let e : to_z w128 (of_z w128 x) ≡ x = grind (arith, common_steps, to_z-of_z) in
    c.loop-p.invariant
    ∙ ap (λ l. made ++ map v l) (count_at n p c.loop-p-test.true)
    ∙ sym (append_assoc made (v p ∷ []) rest)
    ∙ sym (ap (λ l. l ++ rest) (c.in_ok-push.ensures.ok ∙ ap (λ z. made ++ z ∷ []) (e ∙ c.value_at.ensures)))
