-- The order of literals as a test, side by side.
use Rattle.std.specs.Prelude.{ℕ, Bool, false, not, ◌||◌, ◌&&◌, ◌==◌, ◌+◌, nat_lt, List, [], ◌∷◌}
use Rattle.term_base.specs.declared.symbols.Symbol.{Symbol}
use Rattle.term_base.specs.Trees.{Tree}
use Rattle.term_base.specs.Lits.{Lit}
use Rattle.term_order.specs.Literals.{count, multiset}
use Rattle.term_order.specs.Standing.{is_above, standing}

-- m has the term more often than l
abbrev pub has_more : Lit → Lit → Tree → Bool
has_more m l t = nat_lt (count t (multiset l)) (count t (multiset m))

-- m has the term u, one of its sides, more often than l, and u is above t
abbrev pub side_above : List Symbol → Lit → Lit → Tree → Tree → Bool
side_above signature m l u t = has_more m l u && is_above (standing signature u t)

-- where l has the term more often, it lies below one that m has more often
abbrev pub is_below : List Symbol → Lit → Lit → Tree → Bool
is_below signature m l t = not (has_more l m t) || (side_above signature m l m.left t || side_above signature m l m.right t)

-- m has a term more often than l, and both sides of l lie below as they have to
abbrev pub literal_above : List Symbol → Lit → Lit → Bool
literal_above signature m l =
    (has_more m l m.left || has_more m l m.right) && (is_below signature m l l.left && is_below signature m l l.right)

-- a literal, its number counted from n, other than the one of number i, is above l
abbrev pub some_above : List Symbol → Lit → ℕ → ℕ → List Lit → Bool
some_above signature l i n [] = false
some_above signature l i n (m ∷ ms) = (not (n == i) && literal_above signature m l) || some_above signature l i (n + 1) ms
