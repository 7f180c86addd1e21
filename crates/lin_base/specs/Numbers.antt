-- The numbers that stand in sums and facts, and the greatest absolute value.
use Rattle.std.specs.Prelude.{ℕ, max, ℤ, unsigned_abs, List, [], ◌∷◌, ◌++◌, map}
use Rattle.lin_base.specs.declared.sums.Lin.{Lin}
use Rattle.lin_base.specs.declared.facts.Fact.{Fact}
use Rattle.lin_base.specs.declared.facts.Fact.TheVariants.{AtMostZero, Zero, Divides, NotDivides}
use Rattle.lin_base.specs.declared.wides.Wide.{Wide}
use Rattle.lin_base.specs.Steps.{result_of}

-- the numbers that these steps form
abbrev pub results : List Wide → List ℤ
results steps = map result_of steps

-- the coefficients and the constant
abbrev pub numbers_of_sum : Lin → List ℤ
numbers_of_sum t = map (λ e. e.1) t.coefs ++ t.constant ∷ []

-- the modulus, where there is one, and the numbers of the sum
abbrev pub numbers_of : Fact → List ℤ
numbers_of (AtMostZero t) = numbers_of_sum t
numbers_of (Zero t) = numbers_of_sum t
numbers_of (Divides m t) = m ∷ numbers_of_sum t
numbers_of (NotDivides m t) = m ∷ numbers_of_sum t

-- the greatest absolute value, 0 where there is no number
abbrev pub greatest_abs : List ℤ → ℕ
greatest_abs [] = 0
greatest_abs (z ∷ zs) = max (unsigned_abs z) (greatest_abs zs)
