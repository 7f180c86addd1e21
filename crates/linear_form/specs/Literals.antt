-- Whether two relations and two literals are one.
use Rattle.std.specs.Prelude.{Bool, true, false, ◌&&◌}
use Rattle.term_base.specs.Trees.{same_tree}
use Rattle.term_base.specs.Lits.{Relation, equal, differ, at_most, Lit}

-- whether two relations are one
abbrev pub same_relation : Relation → Relation → Bool
same_relation equal equal = true
same_relation differ differ = true
same_relation at_most at_most = true
same_relation _ _ = false

-- whether two literals are one, side by side
abbrev pub same_lit : Lit → Lit → Bool
same_lit l m = same_relation l.relation m.relation && (same_tree l.left m.left && same_tree l.right m.right)
