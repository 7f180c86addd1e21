use Rattle.std.proofs.Common.{ℤ, pos, ◌≤ℤ◌}
use Rattle.cert_tree.proofs.Forming.{narrow_keeps}
use Rattle.cert_tree.proofs.test_points.period.Goals as goal

pub returns-clause-positive : goal.returns-clause-positive
returns-clause-positive c =
    let P : ℤ → Type 0 = λ d. pos 1 ≤ℤ d in
    narrow_keeps P c.formed_period.result c.narrow.result c.formed_period.ensures.positive c.narrow.ensures.value
