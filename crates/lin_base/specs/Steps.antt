-- The order of computing: which sums and products are formed, in which order. A step is a `Wide`: an operation and its operands, whether its result leaves the range or not. An operation on sums has its value in whole numbers (Sum, Change, Combine) and beside it the list of its steps, joined by `++` in the order of forming. The left operand of a product is the multiplier, that of a sum the number that was formed first.
use Rattle.std.specs.Prelude.{◌≡◌, ◌≢◌, ⊤, ℕ, ℤ, pos, negsuc, ◌+ℤ◌, ◌*ℤ◌, ◌==◌, Bool, not, is_none, List, [], ◌∷◌, ◌++◌, Option, Some, None, Result, Ok, Err, IfOk, IfErr, if◌then◌else◌}
use Rattle.std.specs.List.{find}
use Rattle.lin_base.specs.declared.sums.Lin.{Lin}
use Rattle.lin_base.specs.declared.facts.Fact.{Fact}
use Rattle.lin_base.specs.declared.facts.Fact.TheVariants.{AtMostZero, Zero, Divides, NotDivides}
use Rattle.lin_base.specs.declared.wides.Op.{Op}
use Rattle.lin_base.specs.declared.wides.Op.TheVariants.{Add, Mul}
use Rattle.lin_base.specs.declared.wides.Wide.{Wide}
use Rattle.lin_base.specs.declared.wides.ArithmeticError.{ArithmeticError}
use Rattle.lin_base.specs.declared.wides.ArithmeticError.TheVariants.{Memory, Wide as TooWide}
use Rattle.lin_base.specs.Whole.{is_in_range, gcd, div_floor}
use Rattle.lin_base.specs.Sum.{Terms, Valuation, coef, occurs, without, scale, negated, number}
use Rattle.lin_base.specs.Fact.{sum_of}

-- the step l + r
abbrev pub adds : ℤ → ℤ → Wide
adds l r = record { op = Add; left = l; right = r }

-- the step l * r
abbrev pub multiplies : ℤ → ℤ → Wide
multiplies l r = record { op = Mul; left = l; right = r }

-- the result of an operation
abbrev pub apply_op : Op → ℤ → ℤ → ℤ
apply_op Add l r = l +ℤ r
apply_op Mul l r = l *ℤ r

-- the result of a step
abbrev pub result_of : Wide → ℤ
result_of s = apply_op s.op s.left s.right

-- the first step whose result leaves the range
abbrev pub first_wide : List Wide → Option Wide
first_wide = find (λ s. not (is_in_range (result_of s)))

-- each step stays in the range
abbrev pub is_narrow : List Wide → Bool
is_narrow steps = is_none (first_wide steps)

-- the value where no step leaves the range
abbrev pub unless : {A : Type 0} → Option Wide → A → Result A Wide
unless None a = Ok a
unless (Some w) a = Err w

-- the answer of a call that forms these steps and takes no memory: the value, or the first step that leaves the range
abbrev pub formed_by : {A : Type 0} → List Wide → A → Result A Wide
formed_by steps a = unless (first_wide steps) a

-- an error is want of memory, or Wide with this first step that leaves the range
abbrev pub IsErrorAt : ArithmeticError → Option Wide → Type 0
IsErrorAt Memory first = ⊤
IsErrorAt (TooWide w) first = first ≡ Some w

-- the answer of a call that forms these steps and may want memory: the value exactly where each result is in the range, Wide exactly with the first step that leaves it
abbrev pub Forms : {A : Type 0} → Result A ArithmeticError → List Wide → A → Type 0
Forms r steps a = IfOk r (λ v. (first_wide steps ≡ None) × (v ≡ a)) × IfErr r (λ e. IsErrorAt e (first_wide steps))

-- the answer isn't want of memory
abbrev pub WantsNoMemory : {A : Type 0} → Result A ArithmeticError → Type 0
WantsNoMemory r = IfErr r (λ e. e ≢ Memory)

-- ---- the orders
-- k is added to the coefficient at x, where there is one
abbrev pub add_term_steps : ℕ → ℤ → Terms → List Wide
add_term_steps x k [] = []
add_term_steps x k ((y, l) ∷ ts) = if y == x then adds k l ∷ [] else add_term_steps x k ts

-- the coefficients by ascending unknown
abbrev pub add_terms_steps : Terms → Terms → List Wide
add_terms_steps [] us = []
add_terms_steps ((x, k) ∷ ts) us = add_term_steps x k us ++ add_terms_steps ts us

-- the coefficients by ascending unknown, then the constants
abbrev pub add_steps : Lin → Lin → List Wide
add_steps t u = add_terms_steps t.coefs u.coefs ++ adds t.constant u.constant ∷ []

-- k times each coefficient by ascending unknown, then k times the constant
abbrev pub scale_terms_steps : ℤ → Terms → List Wide
scale_terms_steps k [] = []
scale_terms_steps k ((x, l) ∷ ts) = multiplies k l ∷ scale_terms_steps k ts

-- the coefficients, then the constant
abbrev pub scale_steps : ℤ → Lin → List Wide
scale_steps k t = scale_terms_steps k t.coefs ++ multiplies k t.constant ∷ []

-- a sum changes its sign by a product with -1
abbrev pub negated_steps : Lin → List Wide
negated_steps t = scale_steps (negsuc 0) t

-- adding a number to a sum
abbrev pub add_number_steps : Lin → ℤ → List Wide
add_number_steps t c = add_steps t (number c)

-- the product with -1, then the sum with 1
abbrev pub above_steps : Lin → List Wide
above_steps t = negated_steps t ++ add_number_steps (negated t) (pos 1)

-- b times t, then a times u, then their sum
abbrev pub replace_in_steps : ℕ → ℤ → Lin → Lin → List Wide
replace_in_steps x a t s =
    scale_steps (coef x s) t ++ scale_steps a (without x s) ++ add_steps (scale (coef x s) t) (scale a (without x s))

-- a times the modulus comes last
abbrev pub modulus_steps : ℤ → Fact → List Wide
modulus_steps a (AtMostZero s) = []
modulus_steps a (Zero s) = []
modulus_steps a (Divides m s) = multiplies a m ∷ []
modulus_steps a (NotDivides m s) = multiplies a m ∷ []

-- none for a fact without x
abbrev pub replace_steps : ℕ → ℤ → Lin → Fact → List Wide
replace_steps x a t f = if occurs x (sum_of f) then replace_in_steps x a t (sum_of f) ++ modulus_steps a f else []

-- of several facts in order
abbrev pub replace_all_steps : ℕ → ℤ → Lin → List Fact → List Wide
replace_all_steps x a t [] = []
replace_all_steps x a t (f ∷ fs) = replace_steps x a t f ++ replace_all_steps x a t fs

-- a/gcd times b
abbrev pub lcm_steps : ℤ → ℤ → List Wide
lcm_steps a b = multiplies (div_floor a (pos (gcd a b))) b ∷ []

-- an evaluation: by ascending unknown, the constant last
abbrev pub value_steps_from : Valuation → ℤ → Terms → ℤ → List Wide
value_steps_from v so_far [] c = adds so_far c ∷ []
value_steps_from v so_far ((x, k) ∷ ts) c = multiplies k (v x) ∷ adds so_far (k *ℤ v x) ∷ value_steps_from v (so_far +ℤ k *ℤ v x) ts c

-- the sum so far starts with 0
abbrev pub value_steps : Valuation → Lin → List Wide
value_steps v t = value_steps_from v (pos 0) t.coefs t.constant
