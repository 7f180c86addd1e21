-- Tests of literals and of lists of literals: whether they are one, an inequality, or t != t.
use Rattle.std.specs.Prelude.{Bool, true, false, ◌&&◌, List, [], ◌∷◌}
use Rattle.term_base.specs.Trees.{same_tree}
use Rattle.term_base.specs.Lits.{Relation, equal, differ, at_most, Lit}

-- whether two relations are one
abbrev pub same_relation : Relation → Relation → Bool
same_relation equal equal = true
same_relation differ differ = true
same_relation at_most at_most = true
same_relation _ _ = false

-- whether two literals are one, side by side
abbrev pub same_lit : Lit → Lit → Bool
same_lit l m = same_relation l.relation m.relation && (same_tree l.left m.left && same_tree l.right m.right)

-- whether two lists of literals are one
abbrev pub same_lits : List Lit → List Lit → Bool
same_lits [] [] = true
same_lits (l ∷ ls) (m ∷ ms) = same_lit l m && same_lits ls ms
same_lits _ _ = false

-- the relation is that of an inequality
abbrev pub is_inequality : Relation → Bool
is_inequality equal = false
is_inequality differ = false
is_inequality at_most = true

-- whether a literal is t != t
abbrev pub differs_from_itself : Lit → Bool
differs_from_itself l = same_relation l.relation differ && same_tree l.left l.right
