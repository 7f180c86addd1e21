-- Small cases of the definitions. The variables are A0 and A1.
use Rattle.std.proofs.Common.{◌≡◌, ℕ, ℤ, pos, negsuc, true, false, [], ◌∷◌, refl}
use Rattle.term_base.specs.declared.symbols.Sort.TheVariants.{Int}
use Rattle.term_base.specs.declared.variables.Kind.TheVariants.{Abstraction}
use Rattle.term_base.specs.Trees.{Tree, var, node, none, more, number, plus, times}
use Rattle.term_base.specs.Lits.{equation, disequation, inequality}
use Rattle.linear_form.specs.Linear.{linear}
use Rattle.linear_form.specs.Normal.{is_same_lit, is_false_lit}

abbrev x : ℕ → Tree
x n = var (record { kind = Abstraction; sort = Int; id = n; proper = refl })

abbrev num : ℤ → Tree
num n = node (number n) none

abbrev sum_of : Tree → Tree → Tree
sum_of s t = node plus (more s (more t none))

abbrev by : ℤ → Tree → Tree
by k t = node times (more (num k) (more t none))

-- (2 * A0) + 3 minus A0
difference : (linear (sum_of (by (pos 2) (x 0)) (num (pos 3))) (x 0)).sum ≡ record { coefs = (0, pos 1) ∷ []; constant = pos 3 }
difference = refl

-- (2 * A0) <= 1 says that A0 <= 0
tightened : is_same_lit [] (inequality (by (pos 2) (x 0)) (num (pos 1))) (inequality (x 0) (num (pos 0))) ≡ true
tightened = refl

-- A0 = A1 doesn't say that A1 = A0: the first coefficient is that of the first place in each
sides_stay : is_same_lit [] (equation (x 0) (x 1)) (equation (x 1) (x 0)) ≡ false
sides_stay = refl

-- (-1 * A0) = -2 says that A0 = 2
turned : is_same_lit [] (equation (by (negsuc 0) (x 0)) (num (negsuc 1))) (equation (x 0) (num (pos 2))) ≡ true
turned = refl

-- (A0 + 1) != (1 + A0) is false
nothing_differs : is_false_lit [] (disequation (sum_of (x 0) (num (pos 1))) (sum_of (num (pos 1)) (x 0))) ≡ true
nothing_differs = refl

-- 0 <= 0 isn't false
holds : is_false_lit [] (inequality (num (pos 0)) (num (pos 0))) ≡ false
holds = refl
