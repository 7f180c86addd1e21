-- What is made of facts: replacing and tightening, in whole numbers without limit.
use Rattle.std.specs.Prelude.{ℕ, ℤ, pos, ◌*ℤ◌, int_div, ◌==◌, [], ◌∷◌, map, if◌then◌else◌}
use Rattle.lin_base.specs.declared.sums.Lin.{Lin}
use Rattle.lin_base.specs.declared.facts.Fact.{Fact}
use Rattle.lin_base.specs.declared.facts.Fact.TheVariants.{AtMostZero, Zero, Divides, NotDivides}
use Rattle.lin_base.specs.Whole.{gcd, div_ceil}
use Rattle.lin_base.specs.Sum.{Terms, coef, occurs, without, add, scale}
use Rattle.lin_base.specs.Fact.{sum_of}

-- b*t + a*u for b*x + u
abbrev pub replace_in : ℕ → ℤ → Lin → Lin → Lin
replace_in x a t s = add (scale (coef x s) t) (scale a (without x s))

-- the fact of the same kind about another sum, a modulus multiplied by a
abbrev pub remade : ℤ → Lin → Fact → Fact
remade a s (AtMostZero t) = AtMostZero s
remade a s (Zero t) = Zero s
remade a s (Divides m t) = Divides (a *ℤ m) s
remade a s (NotDivides m t) = NotDivides (a *ℤ m) s

-- the fact with t for a*x in its sum
abbrev pub replaced : ℕ → ℤ → Lin → Fact → Fact
replaced x a t f = remade a (replace_in x a t (sum_of f)) f

-- t for a*x: a fact without x stays
abbrev pub replace : ℕ → ℤ → Lin → Fact → Fact
replace x a t f = if occurs x (sum_of f) then replaced x a t f else f

-- the common divisor of the coefficients, 0 where there is none
abbrev pub common_divisor : Terms → ℕ
common_divisor [] = 0
common_divisor ((x, k) ∷ ts) = gcd k (pos (common_divisor ts))

-- t/g + ceil(c/g) for t + c
abbrev pub tight_by : ℤ → Lin → Lin
tight_by g t = record { coefs = map (λ e. (e.0, int_div e.1 g)) t.coefs; constant = div_ceil t.constant g }

-- the fact with its terms divided by their common divisor; one without unknown and any other fact stays
abbrev pub tight : Fact → Fact
tight (AtMostZero t) = AtMostZero (if common_divisor t.coefs == 0 then t else tight_by (pos (common_divisor t.coefs)) t)
tight (Zero t) = Zero t
tight (Divides m t) = Divides m t
tight (NotDivides m t) = NotDivides m t
