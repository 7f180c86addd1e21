-- The parts of `standing`, on trees alone.
use Rattle.std.specs.Prelude.{ℕ, zero, suc, Bool, true, false, ◌||◌, ◌&&◌, if◌then◌else◌, List}
use Rattle.term_base.specs.declared.symbols.Symbol.{Symbol}
use Rattle.term_base.specs.Purity as Purity
use Rattle.term_base.specs.Trees.{Tree, Trees, var, node, none, more, symbol, same_head, occurs}
use Rattle.term_order.specs.Above.{rank, head_below}
use Rattle.term_order.specs.Standing.{above_if, is_above, reaches, by_standing, standing}
use Rattle.term_order.specs.declared.standing.Standing.{Standing}
use Rattle.term_order.specs.declared.standing.Standing.TheVariants as is

-- equal where the test holds
abbrev pub equal_if : Bool → Standing
equal_if b = if b then is.Equal else is.Neither

-- a variable, which has no head
abbrev pub is_variable : Tree → Bool
is_variable (var v) = true
is_variable (node f xs) = false

-- a variable for pure terms
abbrev pub is_abstraction : Tree → Bool
is_abstraction (var v) = Purity.is_abstraction v
is_abstraction (node f xs) = false

-- t is a variable that is in s
abbrev pub has_variable : Tree → Tree → Bool
has_variable s (var v) = occurs v s
has_variable s (node f xs) = false

-- t is a variable, and s, where it is none, is above it: t is for pure terms and s has a foreground symbol, or t is in s
abbrev pub above_variable : List Symbol → Tree → Tree → Bool
above_variable signature s t = (is_abstraction t && Purity.foreground signature s) || has_variable s t

-- a symbol with arguments
abbrev pub is_application : Tree → Bool
is_application (node (symbol f) xs) = true
is_application _ = false

-- the arguments of a node; a variable has none
abbrev pub arguments : Tree → Trees
arguments (var v) = none
arguments (node f xs) = xs

-- the trees without the first n
abbrev pub behind : ℕ → Trees → Trees
behind zero xs = xs
behind (suc n) none = none
behind (suc n) (more x xs) = behind n xs

-- the rank of a node's head
abbrev pub tree_rank : List Symbol → Tree → ℕ
tree_rank signature (var v) = 0
tree_rank signature (node f xs) = rank signature f

-- both are nodes, and the head of s is smaller
abbrev pub has_smaller_head : List Symbol → Tree → Tree → Bool
has_smaller_head signature (node f xs) (node g ys) = head_below signature f g
has_smaller_head signature _ _ = false

-- both are nodes with one head
abbrev pub has_same_head : Tree → Tree → Bool
has_same_head (node f xs) (node g ys) = same_head f g
has_same_head _ _ = false

-- some of the trees equals t or is above t
abbrev pub some_of : List Symbol → Trees → Tree → Bool
some_of signature none t = false
some_of signature (more x xs) t = reaches (standing signature x t) || some_of signature xs t

-- s is above each of the trees
abbrev pub above_each : List Symbol → Tree → Trees → Bool
above_each signature s none = true
above_each signature s (more y ys) = is_above (standing signature s y) && above_each signature s ys

-- how s stands to t by lists of their last arguments, where the heads and the arguments before are equal
abbrev pub by_lists : List Symbol → Tree → Tree → Trees → Trees → Standing
by_lists signature s t none none = is.Equal
by_lists signature s t none (more y ys) = is.Neither
by_lists signature s t (more x xs) none = above_if (some_of signature (more x xs) t)
by_lists signature s t (more x xs) (more y ys) =
    by_standing (standing signature x y)
    (above_if (above_each signature s ys))
    (by_lists signature s t xs ys)
    (above_if (some_of signature xs t))
