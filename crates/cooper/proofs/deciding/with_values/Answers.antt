use Rattle.std.proofs.Common.{◌∙◌, ap}
use Rattle.cert_tree.specs.Holds.{checks}
use Rattle.cooper.specs.Walks.{valuation_of}
use Rattle.cooper.proofs.Settling.{unsure_settles}
use Rattle.cooper.proofs.deciding.with_values.Goals as goal

pub returns : goal.returns
returns c = λ limit within.
    let pool = c.args.pool.now in
    unsure_settles pool (valuation_of c.args.values.now) c.in_ok-values.values c.in_ok-check_sat.field-0 c.requires.pool c.requires.found c.in_ok-values.ensures (c.in_ok-check_sat.ensures.value ∙ ap (checks pool) c.as_slice.ensures) c.if-branch.false limit within
