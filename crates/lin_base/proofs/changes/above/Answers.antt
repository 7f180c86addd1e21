use Rattle.std.proofs.Common.{◌≡◌, ◌∙◌, ap, negsuc, false}
use Rattle.lin_base.specs.Sum.{has_unknown}
use Rattle.lin_base.proofs.Lookup.{has_unknown-scale}
use Rattle.lin_base.proofs.changes.above.Goals as goal

pub returns-clause-memory : goal.returns-clause-memory
returns-clause-memory c = λ h.
    let none : has_unknown c.in_ok-negative.negative ≡ false = ap has_unknown c.in_ok-negative.ensures.product.0.1 ∙ has_unknown-scale (negsuc 0) c.args.a.now h in
    c.add_number.ensures.memory none
