-- Lists of variables.
use Rattle.std.specs.Prelude.{◌≡◌, ℕ, suc, max, Bool, false, ◌||◌, not, List, [], ◌∷◌, filter, if◌then◌else◌}
use Rattle.std.specs.List.{insert}
use Rattle.std.specs.Ordering.{is_lt}
use Rattle.std.specs.declared.cmp.Ordering.TheVariants.{Less}
use Rattle.term_base.specs.declared.variables.Variable.{Variable}
use Rattle.term_base.specs.Same.{same_variable}
use Rattle.term_base.specs.VariableOrder.{variable_cmp}
use Rattle.term_base.specs.Trees.{Tree, Trees, var, node, none, more}

-- whether a variable is in the list
abbrev pub has : List Variable → Variable → Bool
has [] v = false
has (w ∷ ws) v = same_variable w v || has ws v

-- the list without a variable
abbrev pub without : Variable → List Variable → List Variable
without v = filter (λ w. not (same_variable v w))

-- the variable is below each of the list
abbrev pub BelowAll : Variable → List Variable → Type 0
BelowAll v [] = Unit {0}
BelowAll v (w ∷ ws) = (variable_cmp v w ≡ Less) × BelowAll v ws

-- the variables ascend strictly
abbrev pub Ascends : List Variable → Type 0
Ascends [] = Unit {0}
Ascends (v ∷ vs) = BelowAll v vs × Ascends vs

-- how many variables at the front are below this one
abbrev pub rank : List Variable → Variable → ℕ
rank [] v = 0
rank (w ∷ ws) v = if is_lt (variable_cmp w v) then suc (rank ws v) else 0

-- the list with a variable behind those below it, where it was not there yet
abbrev pub inserted : Variable → List Variable → List Variable
inserted v vs = if has vs v then vs else insert vs (rank vs v) v

-- the list with each of these
abbrev pub all_inserted : List Variable → List Variable → List Variable
all_inserted [] vs = vs
all_inserted (w ∷ ws) vs = all_inserted ws (inserted w vs)

-- the list with the variables of a tree
abbrev mutual
  pub gathered : Tree → List Variable → List Variable
  gathered (var v) vs = inserted v vs
  gathered (node f xs) vs = all_gathered xs vs

  pub all_gathered : Trees → List Variable → List Variable
  all_gathered none vs = vs
  all_gathered (more x xs) vs = all_gathered xs (gathered x vs)

-- the least number above those of all variables of the list
abbrev pub past : List Variable → ℕ
past [] = 0
past (v ∷ vs) = max (suc v.id) (past vs)
