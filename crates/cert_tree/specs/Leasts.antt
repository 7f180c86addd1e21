-- The children of Least, bound by bound.
use Rattle.std.specs.Prelude.{ℕ, ℤ, pos, Bool, true, false, not, int_lt, nat_le, ◌==◌, unsigned_abs, length, take, drop, List, [], ◌∷◌, Option, Some, None, if◌then◌else◌}
use Rattle.lin_base.specs.declared.sums.Lin.{Lin}
use Rattle.lin_base.specs.declared.facts.Fact.{Fact}
use Rattle.lin_base.specs.declared.facts.Fact.TheVariants.{AtMostZero, Zero}
use Rattle.lin_base.specs.Whole.{is_zero}
use Rattle.lin_base.specs.Sum.{coef}
use Rattle.lin_base.specs.Steps.{is_narrow}
use Rattle.cert_tree.specs.Children.{Bound, lower_bound, bound_steps_of, point, point_steps}
use Rattle.cert_tree.specs.Stands.{Node, numbered_stand}

-- the fact is a lower bound of p
abbrev pub is_lower_bound : ℕ → Fact → Bool
is_lower_bound p (AtMostZero t) = int_lt (coef p t) (pos 0)
is_lower_bound p (Zero t) = not (is_zero (coef p t))
is_lower_bound p _ = false

-- as many children, where there are so many
abbrev pub count_within : ℤ → ℕ → Option ℕ
count_within children available = if nat_le (unsigned_abs children) available then Some (unsigned_abs children) else None

-- there are just as many children
abbrev pub is_count : ℤ → ℕ → Bool
is_count count available = available == unsigned_abs count

-- the children stand at the first test points of a bound
abbrev pub points_stand : ℕ → List Fact → List ℕ → ℤ → Lin → List Node → Bool
points_stand p facts used b s nodes = numbered_stand (point_steps p facts b s) (point p facts b s) used 0 nodes

-- so many children, where each of them stands at its test point
abbrev pub taken : ℕ → List Fact → List ℕ → ℤ → Lin → List Node → Option ℕ → Option ℕ
taken p facts used b s nodes None = None
taken p facts used b s nodes (Some n) = if points_stand p facts used b s (take n nodes) then Some n else None

-- how many children the bound of a fact takes, where there are so many and they stand
abbrev pub bound_stands : ℕ → List Fact → List ℕ → Option Bound → List Node → Option ℕ
bound_stands p facts used None nodes = Some 0
bound_stands p facts used (Some e) nodes =
    if is_narrow (bound_steps_of (Some e)) then taken p facts used e.side.b e.side.rest nodes (count_within e.children (length nodes)) else None

-- the rest stands after so many children
abbrev pub then_rest : (ℕ → Bool) → Option ℕ → Bool
then_rest rest None = false
then_rest rest (Some n) = rest n

-- the children of the bounds of these facts stand, one bound after the other
abbrev pub bounds_stand : ℕ → ℤ → List Fact → List ℕ → List Fact → List Node → Bool
bounds_stand p d facts used [] [] = true
bounds_stand p d facts used [] (node ∷ nodes) = false
bounds_stand p d facts used (f ∷ fs) nodes = then_rest (λ n. bounds_stand p d facts used fs (drop n nodes)) (bound_stands p facts used (lower_bound p d f) nodes)
