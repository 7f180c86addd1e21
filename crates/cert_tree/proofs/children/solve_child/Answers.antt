use Rattle.std.proofs.Common.{IsTrue}
use Rattle.std.specs.List.{list_all}
use Rattle.lin_base.specs.Fact.{is_fact}
use Rattle.lin_base.proofs.Forming.{Forms-value}
use Rattle.cert_tree.specs.Children.{solve_steps, solved_facts}
use Rattle.cert_tree.proofs.Forming.{narrow_keeps}
use Rattle.cert_tree.proofs.Replacing.{is_fact-solved_facts}
use Rattle.cert_tree.proofs.children.solve_child.Goals as goal

pub returns-in-Some-clause-well_formed : goal.returns-in-Some-clause-well_formed
returns-in-Some-clause-well_formed c =
    let p = c.args.p in
    let fs = c.args.facts.now in
    let t = c.in-Some.t.now in
    let made = is_fact-solved_facts p fs t c.in-Some.ensures.occurring c.in-Some.ensures.well_formed c.requires in
    narrow_keeps (λ gs. IsTrue (list_all is_fact gs)) c.solved_facts.result c.narrow.result (Forms-value (λ gs. IsTrue (list_all is_fact gs)) c.solved_facts.result (solve_steps p fs t) (solved_facts p fs t) c.solved_facts.ensures made) c.narrow.ensures.value
