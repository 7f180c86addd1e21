-- What is bound: the variables of quantifiers, by their names.
use Rattle.std.specs.Prelude.{ℕ, ◌+◌, List, [], ◌∷◌, length, fold, Option, Some, None, if◌then◌else◌, refl}
use Rattle.term_base.specs.declared.symbols.Sort.TheVariants as sorts
use Rattle.term_base.specs.declared.variables.Kind.TheVariants.{Abstraction, Ordinary}
use Rattle.term_base.specs.declared.variables.Variable.{Variable}
use Rattle.tff_grammar.specs.declared.pieces.BasicSort.TheVariants as basic
use Rattle.tff_grammar.specs.declared.trees.Sort.{Sort as WrittenSort}
use Rattle.tff_grammar.specs.declared.trees.Sort.TheVariants as sort
use Rattle.tff_grammar.specs.declared.trees.Variable.{Variable as WrittenVariable}
use Rattle.tff_grammar.specs.Pieces.{bytes_at}
use Rattle.tff_signature.specs.Names.{Name, same_name, name_of, number_of}

-- a name, and the variable that it is bound to
pub record Bound : Type 0 where
  pub name : Name
  pub variable : Variable

-- what is bound, the inner binders first
abbrev pub Scope : Type 0
Scope = List Bound

-- the innermost binder of a name counts
abbrev pub bound_by : Scope → Name → Option Variable
bound_by [] name = None
bound_by (b ∷ scope) name = if same_name name b.name then Some b.variable else bound_by scope name

module _ (text : List ℕ) (sort_names : List Name) where
  -- The variable with this number and the sort that is written: a variable without a sort has the sort `$i`. The grammar writes no `$o` here.
  abbrev pub variable_of_sort : ℕ → Option WrittenSort → Variable
  variable_of_sort id None = record { kind = Ordinary; sort = sorts.Individual; id = id; proper = refl }
  variable_of_sort id (Some (sort.Word w)) = record { kind = Ordinary; sort = sorts.Declared (number_of sort_names (name_of text w)); id = id; proper = refl }
  variable_of_sort id (Some (sort.Basic basic.Individual)) = record { kind = Ordinary; sort = sorts.Individual; id = id; proper = refl }
  variable_of_sort id (Some (sort.Basic basic.Int)) = record { kind = Abstraction; sort = sorts.Int; id = id; proper = refl }
  variable_of_sort id (Some sort.Truth) = record { kind = Ordinary; sort = sorts.Individual; id = id; proper = refl }

  -- the variables of a quantifier, numbered from one on
  abbrev pub variables_from : ℕ → List WrittenVariable → List Variable
  variables_from id [] = []
  variables_from id (v ∷ vs) = variable_of_sort id v.sort ∷ variables_from (id + 1) vs

  -- what is bound inside the quantifier
  abbrev pub bind : ℕ → List WrittenVariable → Scope → Scope
  bind id [] scope = scope
  bind id (v ∷ vs) scope = bind (id + 1) vs (record { name = bytes_at text v.name; variable = variable_of_sort id v.sort } ∷ scope)
