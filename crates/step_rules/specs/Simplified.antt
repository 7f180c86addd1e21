-- The clauses that Pin and Demodulate give.
use Rattle.std.specs.Prelude.{ℕ, ℤ, List, [], ◌∷◌, Option, Some, None, option_and_then, if◌then◌else◌}
use Rattle.term_base.specs.declared.places.Place.{Place}
use Rattle.term_base.specs.declared.places.Side.{Side}
use Rattle.term_base.specs.declared.symbols.Sort.TheVariants.{Int}
use Rattle.term_base.specs.declared.variables.Variable.{Variable}
use Rattle.term_base.specs.Same.{same_sort}
use Rattle.term_base.specs.Trees.{Head, truth, number, plus, times, symbol, Tree, var, node, none}
use Rattle.term_base.specs.Substitution.{put_in, single}
use Rattle.term_base.specs.Lits.{Lit, put_clause}
use Rattle.term_base.specs.Places.{item, left_out, tree_at, replaced}
use Rattle.step_rules.specs.Inference.{sides_of, sides_where_differing, where_same}

-- a variable of sort Int and a number
abbrev pub pin_with_head : Variable → Head → Option (Variable × ℤ)
pin_with_head v (number n) = if same_sort v.sort Int then Some (v, n) else None
pin_with_head v truth = None
pin_with_head v plus = None
pin_with_head v times = None
pin_with_head v (symbol f) = None

-- a variable of sort Int and a number, in either order
abbrev pub pin_of : Tree → Tree → Option (Variable × ℤ)
pin_of (var v) (node f xs) = pin_with_head v f
pin_of (node f xs) (var v) = pin_with_head v f
pin_of (var v) (var w) = None
pin_of (node f xs) (node g ys) = None

-- those of a literal x != n or n != x
abbrev pub pin_of_lit : Lit → Option (Variable × ℤ)
pin_of_lit l = option_and_then (λ e. pin_of e.0 e.1) (sides_where_differing l.relation l)

-- those of the literal of a number
abbrev pub pin_at : List Lit → ℕ → Option (Variable × ℤ)
pin_at c i = option_and_then pin_of_lit (item i c)

-- the rest of c, n for x
abbrev pub pinned_clause : List Lit → ℕ → Variable → ℤ → List Lit
pinned_clause c i v n = put_clause (single v (node (number n) none)) (left_out i c)

-- c without its literal x != n or n != x, x of sort Int, with n for x
abbrev pub pinned : List Lit → ℕ → Option (List Lit)
pinned c i = option_and_then (λ p. Some (pinned_clause c i p.0 p.1)) (pin_at c i)

-- the named side and the other one of a clause that is one equation
abbrev pub unit_sides : Side → List Lit → Option (Tree × Tree)
unit_sides side (l ∷ []) = sides_of side l
unit_sides side [] = None
unit_sides side (l ∷ m ∷ ls) = None

-- c with the other side of the unit's equation under s1 at the place, where the named side under s1 is the term there
abbrev pub demodulated : List Lit → Place → List Lit → Side → (Variable → Tree) → Option (List Lit)
demodulated c place unit side s1 =
    option_and_then
    (λ e. option_and_then (λ u. where_same (put_in s1 e.0) u (replaced c place (put_in s1 e.1))) (tree_at c place))
    (unit_sides side unit)
