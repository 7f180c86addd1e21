use Rattle.std.proofs.Common.{◌≡◌, ◌∙◌, ap, false}
use Rattle.lin_base.specs.Sum.{has_unknown}
use Rattle.bg_view.proofs.NoUnknowns.{has_unknown-negated}
use Rattle.bg_view.proofs.linear.subtract.Goals as goal

pub returns-clause-memory : goal.returns-clause-memory
returns-clause-memory c = λ h g.
    let none : has_unknown c.in_ok-negate.field-0 ≡ false = ap has_unknown c.in_ok-negate.ensures.product.0.1 ∙ has_unknown-negated c.args.u.now g in
    c.add.ensures.memory h none
