-- Literals that say the same, literals that are false, and normal clauses.
use Rattle.std.specs.Prelude.{ℤ, Bool, false, not, ◌&&◌, ◌||◌, List, map, Option, Some, None, if◌then◌else◌}
use Rattle.std.specs.List.{list_all, list_any}
use Rattle.std.specs.Option.{option_map_or}
use Rattle.term_base.specs.declared.symbols.Sort.TheVariants.{Int}
use Rattle.term_base.specs.declared.symbols.Symbol.{Symbol}
use Rattle.term_base.specs.Trees.{Tree, same_tree}
use Rattle.term_base.specs.Sorting.{sort, has_sort}
use Rattle.term_base.specs.Lits.{Relation, equal, differ, at_most, Lit}
use Rattle.lin_base.specs.declared.sums.Lin.{Lin}
use Rattle.lin_base.specs.Whole.{is_zero, is_positive}
use Rattle.lin_base.specs.Sum.{has_unknown}
use Rattle.lin_base.specs.Steps.{is_narrow}
use Rattle.linear_form.specs.Summands.{summands}
use Rattle.linear_form.specs.Linear.{linear}
use Rattle.linear_form.specs.Forms.{Form, form, same_forms}
use Rattle.linear_form.specs.Literals.{same_relation, same_lit}

-- the form of a literal with these sides, none where a number of its Linear leaves the range
abbrev pub narrow_form : Relation → Tree → Tree → Option Form
narrow_form r s t = if is_narrow (linear s t).steps then Some (form r (summands s t) (linear s t).sum) else None

-- the form of a literal; only one over the integers has a form
abbrev pub form_of : List Symbol → Lit → Option Form
form_of signature l = if has_sort (sort signature l.left) Int then narrow_form l.relation l.left l.right else None

-- a literal with its form
pub record WithForm : Type 0 where
  pub literal : Lit
  pub form : Option Form

-- the literal with the form that it has
abbrev pub with_form : List Symbol → Lit → WithForm
with_form signature l = record { literal = l; form = form_of signature l }

-- they are equal, or of one relation over the integers and have the same form
abbrev pub say_the_same : WithForm → WithForm → Bool
say_the_same a b = same_lit a.literal b.literal || (same_relation a.literal.relation b.literal.relation && same_forms a.form b.form)

-- two literals are Same
abbrev pub is_same_lit : List Symbol → Lit → Lit → Bool
is_same_lit signature l m = say_the_same (with_form signature l) (with_form signature m)

-- left minus right is the number c, and the relation is false
abbrev pub excludes : Relation → ℤ → Bool
excludes equal c = not (is_zero c)
excludes differ c = is_zero c
excludes at_most c = is_positive c

-- Linear has no unknown and excludes the relation
abbrev pub is_false_sum : Relation → Lin → Bool
is_false_sum r t = not (has_unknown t) && excludes r t.constant

-- the literal is t != t
abbrev pub differs_from_itself : Lit → Bool
differs_from_itself l = same_relation l.relation differ && same_tree l.left l.right

-- it differs from itself, or its Linear is false
abbrev pub is_false_with : WithForm → Bool
is_false_with a = differs_from_itself a.literal || option_map_or (λ f. is_false_sum a.literal.relation f.sum) a.form false

-- a literal is False: t != t, or over the integers Differ with Linear 0, Equal with a constant other than 0, AtMost with a positive constant
abbrev pub is_false_lit : List Symbol → Lit → Bool
is_false_lit signature l = is_false_with (with_form signature l)

-- some literal of the list says the same
abbrev pub has_same : List WithForm → WithForm → Bool
has_same ms l = list_any (say_the_same l) ms

-- the literal is False or Same as one of the list
abbrev pub is_kept : List WithForm → WithForm → Bool
is_kept ms l = is_false_with l || has_same ms l

-- each literal of the first clause is False or Same as one of the second, and each of the second is Same as one of the first
abbrev pub are_normal : List WithForm → List WithForm → Bool
are_normal ls ms = list_all (is_kept ms) ls && list_all (has_same ls) ms

-- d is a Normal of c
abbrev pub is_normal : List Symbol → List Lit → List Lit → Bool
is_normal signature c d = are_normal (map (with_form signature) c) (map (with_form signature) d)
