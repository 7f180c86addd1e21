-- Sides, paths and places: the tree at a place of a clause, and the clause with another tree there.
use Rattle.std.specs.Prelude.{ℕ, zero, suc, List, [], ◌∷◌, Option, Some, None}
use Rattle.std.specs.Option.{option_and_then, option_map_or}
use Rattle.term_base.specs.declared.places.Place.{Place}
use Rattle.term_base.specs.declared.places.Side.{Side}
use Rattle.term_base.specs.declared.places.Side.TheVariants.{Left, Right}
use Rattle.term_base.specs.Trees.{Head, times, Tree, Trees, var, node, none, more}
use Rattle.term_base.specs.Lits.{Lit}

-- the side that is named, and the other one
abbrev pub named : Side → Lit → Tree
named Left l = l.left
named Right l = l.right

abbrev pub other : Side → Lit → Tree
other Left l = l.right
other Right l = l.left

-- the literal with another tree on the named side
abbrev pub with_side : Side → Tree → Lit → Lit
with_side Left t l = record { relation = l.relation; left = t; right = l.right }
with_side Right t l = record { relation = l.relation; left = l.left; right = t }

-- the literal of a number
abbrev pub item : ℕ → List Lit → Option Lit
item n [] = None
item zero (l ∷ ls) = Some l
item (suc n) (l ∷ ls) = item n ls

-- the list without the literal of a number, and with another one in its place
abbrev pub left_out : ℕ → List Lit → List Lit
left_out n [] = []
left_out zero (l ∷ ls) = ls
left_out (suc n) (l ∷ ls) = l ∷ left_out n ls

abbrev pub changed : ℕ → Lit → List Lit → List Lit
changed n new [] = []
changed zero new (l ∷ ls) = new ∷ ls
changed (suc n) new (l ∷ ls) = l ∷ changed n new ls

-- the argument of a number, and the arguments with another one in its place
abbrev pub argument : ℕ → Trees → Option Tree
argument n none = None
argument zero (more x xs) = Some x
argument (suc n) (more x xs) = argument n xs

abbrev pub with_argument : ℕ → Tree → Trees → Trees
with_argument n new none = none
with_argument zero new (more x xs) = more new xs
with_argument (suc n) new (more x xs) = more x (with_argument n new xs)

-- children are numbered from 0; the child 0 of Scale(k, t) is t, its second argument
abbrev pub argument_number : Head → ℕ → ℕ
argument_number times n = suc n
argument_number _ n = n

abbrev pub child : ℕ → Tree → Option Tree
child n (var v) = None
child n (node f xs) = argument (argument_number f n) xs

abbrev pub with_child : ℕ → Tree → Tree → Tree
with_child n new (var v) = var v
with_child n new (node f xs) = node f (with_argument (argument_number f n) new xs)

-- the tree at the end of a path of child numbers
abbrev pub at_path : List ℕ → Tree → Option Tree
at_path [] t = Some t
at_path (n ∷ path) t = option_and_then (at_path path) (child n t)

-- the tree with another one at the end of the path, where there is one
abbrev pub put_child : (Tree → Tree) → ℕ → Tree → Option Tree → Tree
put_child change n t None = t
put_child change n t (Some x) = with_child n (change x) t

abbrev pub put_at : List ℕ → Tree → Tree → Tree
put_at [] new t = new
put_at (n ∷ path) new t = put_child (put_at path new) n t (child n t)

-- the tree at a place of a clause, if the clause has the place
abbrev pub tree_at : List Lit → Place → Option Tree
tree_at c p = option_and_then (λ l. at_path p.path (named p.side l)) (item p.literal c)

-- the literal with another tree at the place
abbrev pub put_place : Place → Tree → Lit → Lit
put_place p new l = with_side p.side (put_at p.path new (named p.side l)) l

-- the clause with another tree at the place, where it has the place
abbrev pub replaced : List Lit → Place → Tree → List Lit
replaced c p new = option_map_or (λ l. changed p.literal (put_place p new l) c) (item p.literal c) c
