use Rattle.std.proofs.Common.{◌≡◌, ◌∙◌, arith, to_z, of_z}
use Rattle.std.specs.Int.{w128}
use Rattle.std.proofs.lemmas.Int.{to_z-of_z}
use Rattle.std.proofs.lemmas.Grind.{common_steps}
use Rattle.cert_tree.proofs.Completion.{complete_forms}
use Rattle.cert_tree.proofs.completing.formed_complete.Goals as goal

pub returns : goal.returns
returns c =
    let d = c.in_ok-d.d in
    let e : to_z w128 (of_z w128 d) ≡ d = grind (arith, common_steps, to_z-of_z) in
    complete_forms c.args.x c.args.clause.now (to_z w128 (of_z w128 d)) c.formed_rows.result (e ∙ c.in_ok-d.ensures.value.0.1) c.in_ok-d.ensures.value.0.0 c.formed_rows.ensures
