-- The order of terms, by its four cases (after the lexicographic path order).
use Rattle.std.specs.Prelude.{◌≡◌, ◌≢◌, ◌⊎◌, ℕ, ℤ, pos, negsuc, Bool, true, false, not, ◌||◌, ◌&&◌, ◌==◌, if◌then◌else◌, nat_lt, unsigned_abs, List}
use Rattle.term_base.specs.declared.symbols.Symbol.{Symbol}
use Rattle.term_base.specs.declared.variables.Variable.{Variable}
use Rattle.term_base.specs.Purity.{is_foreground, foreground, is_abstraction}
use Rattle.term_base.specs.Trees.{Head, truth, number, plus, times, symbol, Tree, Trees, var, node, more, Member}

-- heads ascend by rank: True, numbers, parameters, Sum, Scale, foreground symbols
abbrev pub rank : List Symbol → Head → ℕ
rank signature truth = 0
rank signature (number n) = 1
rank signature (symbol f) = if is_foreground signature f then 5 else 2
rank signature plus = 3
rank signature times = 4

-- whether a number is below 0
abbrev pub is_negative : ℤ → Bool
is_negative (pos n) = false
is_negative (negsuc n) = true

-- numbers ascend by absolute value, the negative one above its positive
abbrev pub number_below : ℤ → ℤ → Bool
number_below m n = nat_lt (unsigned_abs m) (unsigned_abs n) || (unsigned_abs m == unsigned_abs n && (not (is_negative m) && is_negative n))

-- heads of one rank ascend too: numbers, and symbols by number
abbrev pub ranked_below : Head → Head → Bool
ranked_below (number m) (number n) = number_below m n
ranked_below (symbol f) (symbol g) = nat_lt f g
ranked_below _ _ = false

-- whether a head is smaller than another
abbrev pub head_below : List Symbol → Head → Head → Bool
head_below signature f g = nat_lt (rank signature f) (rank signature g) || (rank signature f == rank signature g && ranked_below f g)

-- at the first place where the lists differ, one has x and the other y
abbrev pub FirstDifference : Trees → Trees → Tree → Tree → Type 0
FirstDifference (more a xs) (more b ys) x y = ((a ≡ b) × FirstDifference xs ys x y) ⊎ ((a ≢ b) × (a ≡ x) × (b ≡ y))
FirstDifference _ _ x y = ⊥

-- a term s that is no variable is above t where
--   1. t is an abstraction variable, and s has a foreground symbol;
--   2. some argument of s equals t, or is above t;
--   3. t is no variable, its head is smaller, and s is above each argument of t;
--   4. t is no variable, the heads are equal, at the first place where the arguments differ that of s is above that
--      of t, and s is above each argument of t.
pub data Above (signature : List Symbol) : Tree → Tree → Type 0 where
  over_abstraction : (f : Head) (xs : Trees) (v : Variable)
      → is_abstraction v ≡ true → foreground signature (node f xs) ≡ true → Above signature (node f xs) (var v)
  by_equal_argument : (f : Head) (xs : Trees) (t : Tree) → Member t xs → Above signature (node f xs) t
  by_argument_above : (f : Head) (xs : Trees) (x t : Tree) → Member x xs → Above signature x t → Above signature (node f xs) t
  by_head : (f g : Head) (xs ys : Trees)
      → head_below signature g f ≡ true → ((y : Tree) → Member y ys → Above signature (node f xs) y) → Above signature (node f xs) (node g ys)
  by_arguments : (f : Head) (xs ys : Trees) (x y : Tree)
      → FirstDifference xs ys x y → Above signature x y → ((z : Tree) → Member z ys → Above signature (node f xs) z)
      → Above signature (node f xs) (node f ys)
