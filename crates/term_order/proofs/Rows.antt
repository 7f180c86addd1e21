-- Small cases of the order. s0 is a function of one integer.
use Rattle.std.proofs.Common.{◌≡◌, inl, inr, ℤ, pos, negsuc, false, List, [], ◌∷◌, refl}
use Rattle.term_base.specs.declared.symbols.Class.TheVariants as class
use Rattle.term_base.specs.declared.symbols.Sort.TheVariants.{Int}
use Rattle.term_base.specs.declared.symbols.Symbol.{Symbol}
use Rattle.term_base.specs.declared.variables.Kind.TheVariants.{Abstraction, Ordinary}
use Rattle.term_base.specs.declared.variables.Variable.{Variable}
use Rattle.term_base.specs.Trees.{Tree, var, node, none, more, number, symbol}
use Rattle.term_base.specs.TreeLemmas.{both_ways}
use Rattle.term_base.specs.Lits.{Lit, equation, disequation, inequality}
use Rattle.term_order.specs.Above.{Above, over_abstraction, by_head}
use Rattle.term_order.specs.Literals.{IsMaximal}
use Rattle.term_order.specs.Standing.{standing}
use Rattle.term_order.specs.declared.standing.Standing.TheVariants as is
use Rattle.term_order.proofs.AboveLemmas.{cases}
use Rattle.term_order.proofs.LiteralLemmas.{not_some, some_not}

abbrev symbols : List Symbol
symbols = record { name = []; args = Int ∷ []; result = Int; class = class.Foreground; classified = refl } ∷ []

abbrev a1 : Variable
a1 = record { kind = Abstraction; sort = Int; id = 1; proper = refl }

abbrev n1 : Variable
n1 = record { kind = Ordinary; sort = Int; id = 1; proper = refl }

abbrev num : ℤ → Tree
num n = node (number n) none

abbrev unary : Tree → Tree
unary t = node (symbol 0) (more t none)

-- s0(0) is above A1
application_above_abstraction : Above symbols (unary (num (pos 0))) (var a1)
application_above_abstraction = over_abstraction (symbol 0) (more (num (pos 0)) none) a1 refl refl

-- A1 and 3 are open
variable_not_above : Above symbols (var a1) (num (pos 3)) → ⊥
variable_not_above a = cases symbols (var a1) (num (pos 3)) a

number_not_above_variable : Above symbols (num (pos 3)) (var a1) → ⊥
number_not_above_variable a = elim (cases symbols (num (pos 3)) (var a1) a) [ inl r ↦ r.1.0 | inr p ↦ both_ways false p.1 refl ]

-- -3 is above 3
negative_above_positive : Above symbols (num (negsuc 2)) (num (pos 3))
negative_above_positive = by_head (number (negsuc 2)) (number (pos 3)) none none refl (λ y m. absurd m)

-- the same as the code decides it
application_and_abstraction : standing symbols (unary (num (pos 0))) (var a1) ≡ is.Above
application_and_abstraction = refl

application_and_ordinary : standing symbols (unary (num (pos 0))) (var n1) ≡ is.Neither
application_and_ordinary = refl

abstraction_and_number : standing symbols (var a1) (num (pos 3)) ≡ is.Neither
abstraction_and_number = refl

positive_and_negative : standing symbols (num (pos 3)) (num (negsuc 2)) ≡ is.Neither
positive_and_negative = refl

negative_and_positive : standing symbols (num (negsuc 2)) (num (pos 3)) ≡ is.Above
negative_and_positive = refl

-- s0(s0(0)) and s0(A1): case 1 below equal heads
equal_heads : standing symbols (unary (unary (num (pos 0)))) (unary (var a1)) ≡ is.Above
equal_heads = refl

-- s0(0) = 1 | 1 <= 2: the first literal alone is maximal
abbrev clause : List Lit
clause = equation (unary (num (pos 0))) (num (pos 1)) ∷ (inequality (num (pos 1)) (num (pos 2)) ∷ [])

first_maximal : IsMaximal symbols clause 0
first_maximal = not_some symbols (equation (unary (num (pos 0))) (num (pos 1))) 0 clause refl refl

second_not_maximal : IsMaximal symbols clause 1 → ⊥
second_not_maximal = some_not symbols (inequality (num (pos 1)) (num (pos 2))) 1 clause refl refl

-- 2 = 1 | 2 != 1: the second alone is, since it has both sides twice
abbrev opposed : List Lit
opposed = equation (num (pos 2)) (num (pos 1)) ∷ (disequation (num (pos 2)) (num (pos 1)) ∷ [])

equation_not_maximal : IsMaximal symbols opposed 0 → ⊥
equation_not_maximal = some_not symbols (equation (num (pos 2)) (num (pos 1))) 0 opposed refl refl

disequation_maximal : IsMaximal symbols opposed 1
disequation_maximal = not_some symbols (disequation (num (pos 2)) (num (pos 1))) 1 opposed refl refl
