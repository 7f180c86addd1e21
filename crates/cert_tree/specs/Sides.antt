-- A sum seen from an unknown, without its steps.
use Rattle.cert_tree.specs.declared.sums.Side.{Side as Parts}
use Rattle.cert_tree.specs.Points.{Side}

-- the coefficient and the rest alone
abbrev pub side_of : Side → Parts
side_of e = record { b = e.b; rest = e.rest }
