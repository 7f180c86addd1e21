-- Bounds above, seen as bounds below 1 - u.
use Rattle.std.specs.Prelude.{ℤ, ◌*ℤ◌}
use Rattle.cert_tree.specs.declared.sums.Side.{Side}
use Rattle.cert_tree.specs.declared.test_points.Bound.{Bound}
use Rattle.lin_base.specs.Sum.{above}

-- at 1 - u and on, b*D instances
abbrev pub above_bound : ℤ → Side → Bound
above_bound d e = record { side = record { b = e.b; rest = above e.rest }; children = e.b *ℤ d }
