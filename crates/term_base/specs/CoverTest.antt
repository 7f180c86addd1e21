-- Whether each literal of a list is covered, as a test.
use Rattle.std.specs.Prelude.{Bool, ◌||◌, List}
use Rattle.std.specs.List.{list_any}
use Rattle.term_base.specs.Lits.{Lit}
use Rattle.term_base.specs.LitTests.{same_lit, differs_from_itself}

-- a literal of k
abbrev pub is_among : List Lit → Lit → Bool
is_among k l = list_any (same_lit l) k

-- a literal of k, or t != t
abbrev pub is_covered : List Lit → Lit → Bool
is_covered k l = is_among k l || differs_from_itself l
