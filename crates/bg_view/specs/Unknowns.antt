-- The numbers of unknowns: parameters by ascending symbol number, the variables of a clause after them by first place.
use Rattle.std.specs.Prelude.{ℕ, suc, ◌+◌, nat_lt, List, [], ◌∷◌, ◌++◌, if◌then◌else◌}
use Rattle.std.specs.List.{list_any}
use Rattle.term_base.specs.declared.variables.Variable.{Variable}
use Rattle.term_base.specs.declared.terms.Term.{Term}
use Rattle.term_base.specs.declared.terms.Term.TheOpen.{Term-F, Var, Num, True, Sum, Scale, App}
use Rattle.term_base.specs.declared.terms.Term.TheFolds.{fold-Term}
use Rattle.term_base.specs.declared.clauses.Literal.{Literal}
use Rattle.term_base.specs.declared.clauses.Literal.TheVariants.{Equal, Differ, AtMost}
use Rattle.term_base.specs.declared.clauses.Clause.{Clause}
use Rattle.term_base.specs.Same.{same_variable}
use Rattle.lin_base.specs.Unknowns.{put_in}

-- the unknown of each symbol and of each variable
pub record Numbering : Type 0 where
  pub of_symbol : ℕ → ℕ
  pub of_variable : Variable → ℕ

-- how many of the numbers are below f
abbrev pub rank : ℕ → List ℕ → ℕ
rank f [] = 0
rank f (g ∷ gs) = if nat_lt g f then suc (rank f gs) else rank f gs

-- how many variables stand before v
abbrev pub place : Variable → List Variable → ℕ
place v [] = 0
place v (u ∷ us) = if same_variable u v then 0 else suc (place v us)

-- a parameter has its rank among the symbols, a variable its place after `first`
abbrev pub numbering : List ℕ → ℕ → List Variable → Numbering
numbering symbols first variables = record { of_symbol = λ f. rank f symbols; of_variable = λ v. first + place v variables }

-- ---- the symbols
-- a background term's symbols are parameters, which have no arguments
abbrev pub symbols_step : Term-F (List ℕ) → List ℕ
symbols_step (Var v) = []
symbols_step (Num k) = []
symbols_step True = []
symbols_step (Sum a b) = a ++ b
symbols_step (Scale k a) = a
symbols_step (App f args) = f ∷ []

-- the symbols of a term from the left, as often as they occur
abbrev pub symbols_in : Term → List ℕ
symbols_in = fold-Term (List ℕ) symbols_step

-- those of the left side, then those of the right side
abbrev pub symbols_in_literal : Literal → List ℕ
symbols_in_literal (Equal s t) = symbols_in s ++ symbols_in t
symbols_in_literal (Differ s t) = symbols_in s ++ symbols_in t
symbols_in_literal (AtMost s t) = symbols_in s ++ symbols_in t

-- those of the literals in order
abbrev pub symbols_in_literals : List Literal → List ℕ
symbols_in_literals [] = []
symbols_in_literals (l ∷ ls) = symbols_in_literal l ++ symbols_in_literals ls

-- those of the clauses in order
abbrev pub symbols_in_clauses : List Clause → List ℕ
symbols_in_clauses [] = []
symbols_in_clauses (c ∷ cs) = symbols_in_literals c.literals ++ symbols_in_clauses cs

-- each number once, ascending
abbrev pub ascending : List ℕ → List ℕ
ascending [] = []
ascending (f ∷ fs) = put_in f (ascending fs)

-- the parameters of the clauses
abbrev pub symbols_of : List Clause → List ℕ
symbols_of clauses = ascending (symbols_in_clauses clauses)

-- ---- the variables
-- the variables of the parts in order
abbrev pub variables_step : Term-F (List Variable) → List Variable
variables_step (Var v) = v ∷ []
variables_step (Num k) = []
variables_step True = []
variables_step (Sum a b) = a ++ b
variables_step (Scale k a) = a
variables_step (App f args) = []

-- the variables of a term from the left, as often as they occur
abbrev pub variables_in : Term → List Variable
variables_in = fold-Term (List Variable) variables_step

-- those of the left side, then those of the right side
abbrev pub variables_in_literal : Literal → List Variable
variables_in_literal (Equal s t) = variables_in s ++ variables_in t
variables_in_literal (Differ s t) = variables_in s ++ variables_in t
variables_in_literal (AtMost s t) = variables_in s ++ variables_in t

-- those of the literals in order
abbrev pub variables_in_literals : List Literal → List Variable
variables_in_literals [] = []
variables_in_literals (l ∷ ls) = variables_in_literal l ++ variables_in_literals ls

-- the variables so far, and v where it isn't one of them
abbrev pub noted : List Variable → Variable → List Variable
noted so_far v = if list_any (λ u. same_variable u v) so_far then so_far else so_far ++ v ∷ []

-- the variables so far, and those of a list that aren't among them yet
abbrev pub all_noted : List Variable → List Variable → List Variable
all_noted so_far [] = so_far
all_noted so_far (v ∷ vs) = all_noted (noted so_far v) vs

-- the variables of the clause, each once, by first place: the literals in order, the left side first
abbrev pub variables_of : Clause → List Variable
variables_of c = all_noted [] (variables_in_literals c.literals)
