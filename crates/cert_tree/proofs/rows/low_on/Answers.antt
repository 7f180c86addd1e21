use Rattle.std.proofs.Common.{IsTrue, List}
use Rattle.std.specs.List.{list_all}
use Rattle.lin_base.specs.declared.facts.Fact.{Fact}
use Rattle.lin_base.specs.Fact.{is_fact}
use Rattle.lin_base.proofs.Forming.{Forms-value}
use Rattle.cert_tree.specs.Rows.{low_steps, low_at}
use Rattle.cert_tree.proofs.Forming.{narrow_keeps}
use Rattle.cert_tree.proofs.Rowing.{is_fact-low_at}
use Rattle.cert_tree.proofs.rows.low_on.Goals as goal

pub returns-clause-well_formed : goal.returns-clause-well_formed
returns-clause-well_formed c =
    let x = c.args.x in
    let j = c.args.j.now in
    let clause = c.args.clause.now in
    let P : List Fact → Type 0 = λ fs. IsTrue (list_all is_fact fs) in
    narrow_keeps P c.formed_low.result c.narrow.result (Forms-value P c.formed_low.result (low_steps x j clause) (low_at x j clause) c.formed_low.ensures (is_fact-low_at x j clause c.requires)) c.narrow.ensures.value
