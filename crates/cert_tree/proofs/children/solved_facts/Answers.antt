use Rattle.std.proofs.Common.{subst}
use Rattle.lin_base.specs.Steps.{Forms, replace_all_steps}
use Rattle.lin_base.proofs.Forming.{Forms-after}
use Rattle.cert_tree.specs.declared.sums.Side.{Side}
use Rattle.cert_tree.specs.Points.{solved}
use Rattle.cert_tree.specs.Children.{with_value, solved_facts}
use Rattle.cert_tree.proofs.children.solved_facts.Goals as goal

pub returns : goal.returns
returns c =
    let p = c.args.p in
    let t = c.args.t.now in
    let fs = c.args.facts.now in
    let P : Side → Type 0 = λ e. Forms c.with_value.result (replace_all_steps p e.b e.rest fs) (with_value p e.b e.rest fs) in
    let formed = subst P c.in_ok-side.ensures.0.1 c.with_value.ensures in
    Forms-after c.with_value.result (solved p t).steps (replace_all_steps p (solved p t).b (solved p t).rest fs) (solved_facts p fs t) c.in_ok-side.ensures.0.0 formed
