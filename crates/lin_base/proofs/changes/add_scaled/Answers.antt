use Rattle.std.proofs.Common.{◌≡◌, ◌∙◌, ap, false}
use Rattle.lin_base.specs.Sum.{has_unknown}
use Rattle.lin_base.proofs.Lookup.{has_unknown-scale}
use Rattle.lin_base.proofs.changes.add_scaled.Goals as goal

pub returns-clause-memory : goal.returns-clause-memory
returns-clause-memory c = λ h g.
    let none : has_unknown c.in_ok-scale.field-0 ≡ false = ap has_unknown c.in_ok-scale.ensures.product.0.1 ∙ has_unknown-scale _ c.args.t.now g in
    c.add.ensures.memory h none
