-- A sum whose constant stands as the coefficient of one unknown more.
use Rattle.std.specs.Prelude.{ℕ, ℤ, pos, List, [], ◌∷◌}
use Rattle.lin_base.specs.declared.sums.Lin.{Lin}

-- the constant as the first coefficient
abbrev pub in_front : Lin → Lin
in_front t = record { coefs = (0, t.constant) ∷ t.coefs; constant = pos 0 }

-- the first coefficient as the constant
abbrev pub from_first : List (ℕ × ℤ) → Lin → Lin
from_first [] t = t
from_first (e ∷ es) t = record { coefs = es; constant = e.1 }

-- the sum whose constant stood in front
abbrev pub from_front : Lin → Lin
from_front t = from_first t.coefs t
