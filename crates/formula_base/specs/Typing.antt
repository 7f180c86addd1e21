-- Problems that are well typed: the typing rules of TPTP's TFF without types for truth values as arguments.
use Rattle.std.specs.Prelude.{Bool, true, false, not, ◌&&◌, ◌==◌, List, [], ◌∷◌, ◌++◌, fold, IsTrue, is_some, slice_get}
use Rattle.std.specs.Option.{option_map_or}
use Rattle.std.specs.List.{list_all, find}
use Rattle.term_base.specs.declared.symbols.Sort.TheVariants.{Int, Truth}
use Rattle.term_base.specs.declared.symbols.Symbol.{Symbol}
use Rattle.term_base.specs.declared.variables.Variable.{Variable}
use Rattle.term_base.specs.Same.{same_variable}
use Rattle.term_base.specs.Trees.{Head, symbol, Tree, Trees, var, node, none, more, tree}
use Rattle.term_base.specs.Sorting.{sort, has_sort}
use Rattle.term_base.specs.Clauses.{are_alike}
use Rattle.formula_base.specs.declared.formulas.Formula.{Formula}
use Rattle.formula_base.specs.declared.formulas.Formula.TheOpen as f
use Rattle.formula_base.specs.declared.formulas.Formula.TheOpen.{Formula-F}
use Rattle.formula_base.specs.declared.formulas.Formula.TheFolds.{fold-Formula}
use Rattle.formula_base.specs.declared.problems.Problem.{Problem}

-- the innermost binder of a number binds this very variable; the binders stand innermost first
abbrev pub is_bound : List Variable → Variable → Bool
is_bound binders v = option_map_or (λ u. same_variable u v) (find (λ u. u.id == v.id) binders) false

-- a symbol is one of the signature's
abbrev pub is_known : List Symbol → Head → Bool
is_known symbols (symbol g) = is_some (slice_get symbols g)
is_known symbols _ = true

-- every symbol is one of the signature's, and every variable is bound
abbrev mutual
  pub is_closed : List Symbol → List Variable → Tree → Bool
  is_closed symbols binders (var v) = is_bound binders v
  is_closed symbols binders (node h xs) = is_known symbols h && are_closed symbols binders xs

  pub are_closed : List Symbol → List Variable → Trees → Bool
  are_closed symbols binders none = true
  are_closed symbols binders (more x xs) = is_closed symbols binders x && are_closed symbols binders xs

-- a closed formula of sort Truth
abbrev pub is_predicate : List Symbol → List Variable → Tree → Bool
is_predicate symbols binders t = is_closed symbols binders t && has_sort (sort symbols t) Truth

-- two closed terms of one sort other than Truth
abbrev pub is_equation : List Symbol → List Variable → Tree → Tree → Bool
is_equation symbols binders s t =
    (is_closed symbols binders s && is_closed symbols binders t) && (are_alike (sort symbols s) (sort symbols t) && not (has_sort (sort symbols s) Truth))

-- two closed terms of sort Int
abbrev pub is_inequality : List Symbol → List Variable → Tree → Tree → Bool
is_inequality symbols binders s t =
    (is_closed symbols binders s && is_closed symbols binders t) && (has_sort (sort symbols s) Int && has_sort (sort symbols t) Int)

-- the binders inside these, which bind from left to right
abbrev pub inside : List Variable → List Variable → List Variable
inside vs binders = fold (λ bs v. v ∷ bs) binders vs

abbrev pub typed_step : List Symbol → Formula-F (List Variable → Bool) → List Variable → Bool
typed_step symbols f.True binders = true
typed_step symbols f.False binders = true
typed_step symbols (f.Atom t) binders = is_predicate symbols binders (tree t)
typed_step symbols (f.Same s t) binders = is_equation symbols binders (tree s) (tree t)
typed_step symbols (f.Less s t) binders = is_inequality symbols binders (tree s) (tree t)
typed_step symbols (f.LessEq s t) binders = is_inequality symbols binders (tree s) (tree t)
typed_step symbols (f.Not a) binders = a binders
typed_step symbols (f.And gs) binders = list_all (λ a. a binders) gs
typed_step symbols (f.Or gs) binders = list_all (λ a. a binders) gs
typed_step symbols (f.Implies a b) binders = a binders && b binders
typed_step symbols (f.Iff a b) binders = a binders && b binders
typed_step symbols (f.All vs a) binders = a (inside vs binders)
typed_step symbols (f.Some vs a) binders = a (inside vs binders)

-- a formula is well typed over a signature, inside these binders
abbrev pub is_typed : List Symbol → Formula → List Variable → Bool
is_typed symbols = fold-Formula (List Variable → Bool) (typed_step symbols)

-- the premises, and the conjecture behind them
abbrev pub formulas : Problem → List Formula
formulas p = p.premises ++ option_map_or (λ g. g ∷ []) p.conjecture []

-- every formula is well typed over the problem's symbols
abbrev pub IsWellTyped : Problem → Type 0
IsWellTyped p = IsTrue (list_all (λ g. is_typed p.symbols g []) (formulas p))
