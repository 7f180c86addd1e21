use Rattle.std.proofs.Common.{◌∙◌, sym, IsTrue, List}
use Rattle.std.specs.List.{list_all}
use Rattle.lin_base.specs.declared.facts.Fact.{Fact}
use Rattle.lin_base.specs.Fact.{is_fact}
use Rattle.lin_base.specs.Steps.{replace_all_steps}
use Rattle.lin_base.proofs.Forming.{Forms-value}
use Rattle.cert_tree.specs.Rows.{instance_at}
use Rattle.cert_tree.proofs.Forming.{narrow_keeps}
use Rattle.cert_tree.proofs.Rowing.{allowed, is_fact-instance_at}
use Rattle.cert_tree.proofs.rows.instance_on.Goals as goal

pub formed_instance-requires-clause-positive : goal.formed_instance-requires-clause-positive
formed_instance-requires-clause-positive c = (allowed c.args.params c.args.clause.now c.args.x c.args.a.now c.args.t.now (sym c.instance_is_allowed.ensures ∙ c.if-not-instance_is_allowed.false)).0

pub formed_instance-requires-clause-absent : goal.formed_instance-requires-clause-absent
formed_instance-requires-clause-absent c = (allowed c.args.params c.args.clause.now c.args.x c.args.a.now c.args.t.now (sym c.instance_is_allowed.ensures ∙ c.if-not-instance_is_allowed.false)).2

pub formed_instance-requires-clause-value : goal.formed_instance-requires-clause-value
formed_instance-requires-clause-value c = (allowed c.args.params c.args.clause.now c.args.x c.args.a.now c.args.t.now (sym c.instance_is_allowed.ensures ∙ c.if-not-instance_is_allowed.false)).1

pub returns-clause-well_formed : goal.returns-clause-well_formed
returns-clause-well_formed c =
    let x = c.args.x in
    let a = c.args.a.now in
    let t = c.args.t.now in
    let clause = c.args.clause.now in
    let is = allowed c.args.params clause x a t (sym c.instance_is_allowed.ensures ∙ c.if-not-instance_is_allowed.false) in
    let P : List Fact → Type 0 = λ fs. IsTrue (list_all is_fact fs) in
    narrow_keeps P c.formed_instance.result c.narrow.result (Forms-value P c.formed_instance.result (replace_all_steps x a t clause) (instance_at x a t clause) c.formed_instance.ensures (is_fact-instance_at x a t clause is.0 is.1 c.requires)) c.narrow.ensures.value
