-- Small cases of the definitions. s0: $int > $o, s1: $int > $int, s2: ($int * $int) > $int; s3 and s4 are past the list, so parameters.
use Rattle.std.proofs.Common.{◌≡◌, ℕ, pos, List, [], ◌∷◌, refl}
use Rattle.term_base.specs.declared.symbols.Class.TheVariants as class
use Rattle.term_base.specs.declared.symbols.Sort.TheVariants.{Int, Truth}
use Rattle.term_base.specs.declared.symbols.Symbol.{Symbol}
use Rattle.term_base.specs.declared.variables.Kind.TheVariants.{Abstraction, Ordinary}
use Rattle.term_base.specs.declared.variables.Variable.{Variable}
use Rattle.term_base.specs.Trees.{Tree, var, node, none, more, truth, number, plus, times, symbol}
use Rattle.term_base.specs.Lits.{Lit, equation, disequation, inequality}
use Rattle.weak_abstraction.specs.Targets.{targets}
use Rattle.weak_abstraction.specs.Abstracted.{abstracted}

abbrev symbols : List Symbol
symbols =
    record { name = []; args = Int ∷ []; result = Truth; class = class.Foreground; classified = refl }
    ∷ (record { name = []; args = Int ∷ []; result = Int; class = class.Foreground; classified = refl }
    ∷ (record { name = []; args = Int ∷ Int ∷ []; result = Int; class = class.Foreground; classified = refl } ∷ []))

abbrev a : ℕ → Variable
a n = record { kind = Abstraction; sort = Int; id = n; proper = refl }

abbrev o : ℕ → Variable
o n = record { kind = Ordinary; sort = Int; id = n; proper = refl }

abbrev num : ℕ → Tree
num n = node (number (pos n)) none

abbrev sum_of : Tree → Tree → Tree
sum_of s t = node plus (more s (more t none))

abbrev two_times : Tree → Tree
two_times t = node times (more (num 2) (more t none))

-- s0(t) = true
abbrev predicate : Tree → Lit
predicate t = equation (node (symbol 0) (more t none)) (node truth none)

abbrev f : Tree → Tree
f t = node (symbol 1) (more t none)

abbrev parameter : ℕ → Tree
parameter n = node (symbol n) none

-- s0((A0 + 1)) = true
pure_target : abstracted symbols (predicate (sum_of (var (a 0)) (num 1)) ∷ []) ≡ predicate (var (a 1)) ∷ (disequation (var (a 1)) (sum_of (var (a 0)) (num 1)) ∷ [])
pure_target = refl

-- s0((N0 + 1)) = true
impure_target : abstracted symbols (predicate (sum_of (var (o 0)) (num 1)) ∷ []) ≡ predicate (var (o 1)) ∷ (disequation (var (o 1)) (sum_of (var (o 0)) (num 1)) ∷ [])
impure_target = refl

-- s1((A0 + 1)) <= (A0 + 1): one variable for both
shared_target : abstracted symbols (inequality (f (sum_of (var (a 0)) (num 1))) (sum_of (var (a 0)) (num 1)) ∷ [])
    ≡ inequality (f (var (a 1))) (var (a 1)) ∷ (disequation (var (a 1)) (sum_of (var (a 0)) (num 1)) ∷ [])
shared_target = refl

-- s3 = s1(s3): a parameter that is a whole side of an equation stays
parameter_beside : abstracted symbols (equation (parameter 3) (f (parameter 3)) ∷ []) ≡ equation (parameter 3) (f (var (a 0))) ∷ (disequation (var (a 0)) (parameter 3) ∷ [])
parameter_beside = refl

-- s3 != s1(s3): one of a disequation doesn't
parameter_differs : abstracted symbols (disequation (parameter 3) (f (parameter 3)) ∷ []) ≡ disequation (var (a 0)) (f (var (a 0))) ∷ (disequation (var (a 0)) (parameter 3) ∷ [])
parameter_differs = refl

-- (s1(s3) + s4) <= 2 has the targets s3 and s4, and 2 * s1((s3 + 1)) <= 0 the target (s3 + 1)
below_sum : targets symbols (inequality (sum_of (f (parameter 3)) (parameter 4)) (num 2) ∷ []) ≡ parameter 3 ∷ (parameter 4 ∷ [])
below_sum = refl

below_product : targets symbols (inequality (two_times (f (sum_of (parameter 3) (num 1)))) (num 0) ∷ []) ≡ sum_of (parameter 3) (num 1) ∷ []
below_product = refl

-- s1((s3 + N0)) <= 0 has the target (s3 + N0) alone: s3 isn't outermost
outermost_alone : targets symbols (inequality (f (sum_of (parameter 3) (var (o 0)))) (num 0) ∷ []) ≡ sum_of (parameter 3) (var (o 0)) ∷ []
outermost_alone = refl

-- s1(3) = 1 | (s3 + N0) <= N0 has none
no_target : abstracted symbols (equation (f (num 3)) (num 1) ∷ (inequality (sum_of (parameter 3) (var (o 0))) (var (o 0)) ∷ []))
    ≡ equation (f (num 3)) (num 1) ∷ (inequality (sum_of (parameter 3) (var (o 0))) (var (o 0)) ∷ [])
no_target = refl
