-- Variables, and heads that no substitution makes equal.
use Rattle.std.specs.Prelude.{Bool, true, false}
use Rattle.term_base.specs.Trees.{Tree, var, node, same_head}

abbrev pub is_variable : Tree → Bool
is_variable (var v) = true
is_variable (node f xs) = false

-- one of the trees is a variable, or both have one head
abbrev pub heads_meet : Tree → Tree → Bool
heads_meet (var v) u = true
heads_meet (node f xs) (var w) = true
heads_meet (node f xs) (node g ys) = same_head f g
