use Rattle.std.proofs.Common.{IsTrue}
use Rattle.lin_base.specs.Fact.{is_lin}
use Rattle.cert_tree.proofs.Forming.{narrow_keeps}
use Rattle.cert_tree.proofs.sums.one_above.Goals as goal

pub returns-clause-well_formed : goal.returns-clause-well_formed
returns-clause-well_formed c = narrow_keeps (λ u. IsTrue (is_lin u)) c.above.result c.narrow.result c.above.ensures.well_formed c.narrow.ensures.value
