-- The terms to which a clause pins its variables. A literal x != g pins x to g where g is Pure and without variables.
use Rattle.std.specs.Prelude.{Bool, true, ◌&&◌, List, [], ◌∷◌, Option, Some, None, if◌then◌else◌}
use Rattle.std.specs.Option.{is_some, option_or, option_map_or}
use Rattle.term_base.specs.declared.symbols.Symbol.{Symbol}
use Rattle.term_base.specs.declared.variables.Variable.{Variable}
use Rattle.term_base.specs.Same.{same_variable}
use Rattle.term_base.specs.Trees.{Tree, Trees, var, node, none, more}
pub use Rattle.term_base.specs.Known.{is_ground, are_ground}
use Rattle.term_base.specs.SimpleTest.{is_pure_tree}
use Rattle.term_base.specs.Lits.{Relation, equal, differ, at_most, Lit}

-- Pure and without variables
abbrev pub is_pin : List Symbol → Tree → Bool
is_pin signature g = is_ground g && is_pure_tree signature g

-- g where the first tree is the variable and g is Pure and without variables
abbrev pub pinned_by : List Symbol → Variable → Tree → Tree → Option Tree
pinned_by signature v (var x) g = if same_variable x v && is_pin signature g then Some g else None
pinned_by signature v (node f xs) g = None

-- what a literal pins the variable to
abbrev pub pin_in : List Symbol → Variable → Relation → Tree → Tree → Option Tree
pin_in signature v equal s t = None
pin_in signature v differ s t = pinned_by signature v s t
pin_in signature v at_most s t = None

-- what a clause pins the variable to: the first such literal counts
abbrev pub pinned : List Symbol → List Lit → Variable → Option Tree
pinned signature [] v = None
pinned signature (l ∷ ls) v = option_or (pin_in signature v l.relation l.left l.right) (pinned signature ls v)

-- the pinned term, or the variable itself where it isn't pinned
abbrev pub pin : List Symbol → List Lit → Variable → Tree
pin signature c v = option_map_or (λ g. g) (pinned signature c v) (var v)

-- each variable of a tree is pinned
abbrev mutual
  pub is_pinned : List Symbol → List Lit → Tree → Bool
  is_pinned signature c (var v) = is_some (pinned signature c v)
  is_pinned signature c (node f xs) = are_pinned signature c xs

  pub are_pinned : List Symbol → List Lit → Trees → Bool
  are_pinned signature c none = true
  are_pinned signature c (more x xs) = is_pinned signature c x && are_pinned signature c xs
