-- The conclusions of superposition, resolution and factoring for given substitutions. Neither an order of terms nor maximal literals are asked for.
use Rattle.std.specs.Prelude.{ℕ, ◌==◌, List, ◌++◌, Option, Some, None, option_and_then, if◌then◌else◌}
use Rattle.term_base.specs.declared.places.Place.{Place}
use Rattle.term_base.specs.declared.places.Side.{Side}
use Rattle.term_base.specs.declared.variables.Variable.{Variable}
use Rattle.term_base.specs.Trees.{Tree, same_tree}
use Rattle.term_base.specs.Substitution.{put_in}
use Rattle.term_base.specs.Lits.{Relation, equal, differ, at_most, Lit, disequation, put_clause}
use Rattle.term_base.specs.Places.{named, other, item, left_out, changed, tree_at, replaced}

-- the named side of a literal and the other one, where the relation is equality
abbrev pub sides_where_equal : Relation → Side → Lit → Option (Tree × Tree)
sides_where_equal equal side l = Some (named side l, other side l)
sides_where_equal differ side l = None
sides_where_equal at_most side l = None

-- the named side and the other one of an equation
abbrev pub sides_of : Side → Lit → Option (Tree × Tree)
sides_of side l = sides_where_equal l.relation side l

-- those of the literal of a number, where it is an equation
abbrev pub equation_at : List Lit → ℕ → Side → Option (Tree × Tree)
equation_at c i side = option_and_then (sides_of side) (item i c)

-- the sides of a literal, where the relation is that of a disequation
abbrev pub sides_where_differing : Relation → Lit → Option (Tree × Tree)
sides_where_differing equal l = None
sides_where_differing differ l = Some (l.left, l.right)
sides_where_differing at_most l = None

-- the sides of the literal of a number, where it is a disequation
abbrev pub disequation_at : List Lit → ℕ → Option (Tree × Tree)
disequation_at c i = option_and_then (λ l. sides_where_differing l.relation l) (item i c)

-- a where two terms are one
abbrev pub where_same : {A : Type 0} → Tree → Tree → A → Option A
where_same s t a = if same_tree s t then Some a else None

-- the rest of c under s1, then d under s2 with the other side of the equation under s1 at the place
abbrev pub superposed_clause : List Lit → ℕ → List Lit → Place → Tree → (Variable → Tree) → (Variable → Tree) → List Lit
superposed_clause c i d place r s1 s2 = put_clause s1 (left_out i c) ++ replaced (put_clause s2 d) place (put_in s1 r)

-- superposition of the equation l = r of c, by its literal and the side that is l, into the term u at a place of d: l under s1 is u under s2
abbrev pub superposed : List Lit → ℕ → Side → List Lit → Place → (Variable → Tree) → (Variable → Tree) → Option (List Lit)
superposed c i side d place s1 s2 =
    option_and_then
    (λ e. option_and_then
    (λ u. where_same (put_in s1 e.0) (put_in s2 u) (superposed_clause c i d place e.1 s1 s2))
    (tree_at d place))
    (equation_at c i side)

-- resolution of a disequation whose sides are one under s1: the rest of c under s1
abbrev pub resolved : List Lit → ℕ → (Variable → Tree) → Option (List Lit)
resolved c i s1 =
    option_and_then (λ e. where_same (put_in s1 e.0) (put_in s1 e.1) (put_clause s1 (left_out i c))) (disequation_at c i)

-- c under s1 with the disequation of the other sides, under s1, for the second equation
abbrev pub factored_clause : List Lit → ℕ → Tree → Tree → (Variable → Tree) → List Lit
factored_clause c second r t s1 = changed second (disequation (put_in s1 r) (put_in s1 t)) (put_clause s1 c)

-- factoring of two different literals, the equations l = r and s = t by the sides that are l and s: these are one under s1
abbrev pub factored_by : List Lit → ℕ → Side → ℕ → Side → (Variable → Tree) → Option (List Lit)
factored_by c first first_side second second_side s1 =
    option_and_then
    (λ e. option_and_then
    (λ f. where_same (put_in s1 e.0) (put_in s1 f.0) (factored_clause c second e.1 f.1 s1))
    (equation_at c second second_side))
    (equation_at c first first_side)

-- factoring of the literals of two numbers, none where both are one
abbrev pub factored : List Lit → ℕ → Side → ℕ → Side → (Variable → Tree) → Option (List Lit)
factored c first first_side second second_side s1 =
    if first == second then None else factored_by c first first_side second second_side s1
