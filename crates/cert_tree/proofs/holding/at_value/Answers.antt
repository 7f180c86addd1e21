use Rattle.std.proofs.Common.{IsTrue, List, pos, refl, arith}
use Rattle.std.proofs.lemmas.Int.{ints}
use Rattle.std.specs.List.{list_all}
use Rattle.lin_base.specs.declared.facts.Fact.{Fact}
use Rattle.lin_base.specs.Fact.{is_fact}
use Rattle.lin_base.specs.Sum.{number}
use Rattle.lin_base.proofs.Forming.{Forms-value}
use Rattle.cert_tree.specs.Holds as spec
use Rattle.cert_tree.proofs.Forming.{narrow_keeps}
use Rattle.cert_tree.proofs.Replacing.{each_replaced}
use Rattle.cert_tree.proofs.holding.at_value.Goals as goal

pub returns-clause-well_formed : goal.returns-clause-well_formed
returns-clause-well_formed c =
    let p = c.args.p in
    let z = c.args.z.now in
    let fs = c.args.clause.now in
    let P : List Fact → Type 0 = λ gs. IsTrue (list_all is_fact gs) in
    narrow_keeps P c.formed_at.result c.narrow.result (Forms-value P c.formed_at.result (spec.at_steps p z fs) (spec.at_value p z fs) c.formed_at.ensures (each_replaced p (pos 1) (number z) (omega (arith, ints)) refl fs c.requires)) c.narrow.ensures.value
