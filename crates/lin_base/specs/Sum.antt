-- Sums: their values and what is formed of them, in whole numbers without limit.
use Rattle.std.specs.Prelude.{ℕ, ℤ, pos, negsuc, ◌+ℤ◌, ◌*ℤ◌, Bool, true, not, ◌==◌, nat_lt, List, [], ◌∷◌, if◌then◌else◌}
use Rattle.std.specs.List.{filter, list_any, list_all}
use Rattle.lin_base.specs.declared.sums.Lin.{Lin}
use Rattle.lin_base.specs.Whole.{is_zero}

-- the terms of a sum, each an unknown and its coefficient; the unknowns ascend and no coefficient is 0
abbrev pub Terms : Type 0
Terms = List (ℕ × ℤ)

-- a whole number for each unknown
abbrev pub Valuation : Type 0
Valuation = ℕ → ℤ

-- the values v, but z at x
abbrev pub assigned : ℕ → ℤ → Valuation → Valuation
assigned x z v y = if y == x then z else v y

-- no coefficient is 0
abbrev pub is_reduced : Terms → Bool
is_reduced ts = list_all (λ e. not (is_zero e.1)) ts

-- ---- the value
-- the sum of the coefficients times the values of their unknowns
abbrev pub value_of_terms : Valuation → Terms → ℤ
value_of_terms v [] = pos 0
value_of_terms v ((x, k) ∷ ts) = k *ℤ v x +ℤ value_of_terms v ts

-- the value of a sum
abbrev pub value : Valuation → Lin → ℤ
value v t = value_of_terms v t.coefs +ℤ t.constant

-- ---- what a sum has
-- the coefficient at x, 0 where x doesn't occur
abbrev pub coef_in : ℕ → Terms → ℤ
coef_in x [] = pos 0
coef_in x ((y, k) ∷ ts) = if y == x then k +ℤ coef_in x ts else coef_in x ts

-- the coefficient of a sum at x
abbrev pub coef : ℕ → Lin → ℤ
coef x t = coef_in x t.coefs

-- x has a term
abbrev pub occurs : ℕ → Lin → Bool
occurs x t = list_any (λ e. e.0 == x) t.coefs

-- some unknown has a term
abbrev pub has_unknown : Lin → Bool
has_unknown t = list_any (λ e. true) t.coefs

-- each unknown of the sum passes the test
abbrev pub each_unknown : (ℕ → Bool) → Lin → Bool
each_unknown test t = list_all (λ e. test e.0) t.coefs

-- ---- what is formed of sums
-- the sum without unknown that is c
abbrev pub number : ℤ → Lin
number c = record { coefs = []; constant = c }

-- the terms with k times x in front, none where k is 0
abbrev pub with_term : ℕ → ℤ → Terms → Terms
with_term x k ts = if is_zero k then ts else (x, k) ∷ ts

-- the terms with k added to the coefficient at x
abbrev pub add_term : ℕ → ℤ → Terms → Terms
add_term x k [] = (x, k) ∷ []
add_term x k ((y, l) ∷ ts) =
    if nat_lt x y then (x, k) ∷ (y, l) ∷ ts else if x == y then with_term x (k +ℤ l) ts else (y, l) ∷ add_term x k ts

-- the terms of both lists
abbrev pub add_terms : Terms → Terms → Terms
add_terms [] us = us
add_terms ((x, k) ∷ ts) us = add_term x k (add_terms ts us)

-- k times each coefficient
abbrev pub scale_terms : ℤ → Terms → Terms
scale_terms k [] = []
scale_terms k ((x, l) ∷ ts) = with_term x (k *ℤ l) (scale_terms k ts)

-- the sum of two sums
abbrev pub add : Lin → Lin → Lin
add t u = record { coefs = add_terms t.coefs u.coefs; constant = t.constant +ℤ u.constant }

-- k times a sum
abbrev pub scale : ℤ → Lin → Lin
scale k t = record { coefs = scale_terms k t.coefs; constant = k *ℤ t.constant }

-- -1 times a sum
abbrev pub negated : Lin → Lin
negated t = scale (negsuc 0) t

-- a sum and a number
abbrev pub add_number : Lin → ℤ → Lin
add_number t c = add t (number c)

-- -1 times a sum, and 1
abbrev pub above : Lin → Lin
above t = add_number (negated t) (pos 1)

-- the sum without its term at x
abbrev pub without : ℕ → Lin → Lin
without x t = record { coefs = filter (λ e. not (e.0 == x)) t.coefs; constant = t.constant }
