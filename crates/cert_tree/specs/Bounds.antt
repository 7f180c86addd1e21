-- Lower bounds without their steps.
use Rattle.std.specs.Prelude.{ℕ, pos, Bool, not, ◌&&◌, int_le}
use Rattle.lin_base.specs.Fact.{is_lin}
use Rattle.lin_base.specs.Sum.{occurs, add_number}
use Rattle.cert_tree.specs.declared.sums.Side.{Side}
use Rattle.cert_tree.specs.declared.test_points.Bound.{Bound as Parts}
use Rattle.cert_tree.specs.Sides.{side_of}
use Rattle.cert_tree.specs.Children.{Bound}

-- the bound alone
abbrev pub bound_of : Bound → Parts
bound_of e = record { side = side_of e.side; children = e.children }

-- the coefficient is at least 1, and the rest a sum without p
abbrev pub is_side : ℕ → Side → Bool
is_side p e = int_le (pos 1) e.b && is_lin e.rest && not (occurs p e.rest)

-- the bound moved up by j
abbrev pub moved_by : Side → ℕ → Side
moved_by e j = record { b = e.b; rest = add_number e.rest (pos j) }
