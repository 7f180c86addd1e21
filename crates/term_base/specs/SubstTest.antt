-- Whether a list of pairs is a substitution, as a test.
use Rattle.std.specs.Prelude.{Bool, true, ◌&&◌, not, List, [], ◌∷◌, Option, Some, None}
use Rattle.std.specs.Ordering.{is_lt}
use Rattle.term_base.specs.declared.terms.Term.{Term}
use Rattle.term_base.specs.declared.terms.Term.TheVariants as term
use Rattle.term_base.specs.declared.variables.Variable.{Variable}
use Rattle.term_base.specs.SameTerm.{same_term}
use Rattle.term_base.specs.VariableOrder.{variable_cmp}

-- the variable is above the last one, if there is one
abbrev pub follows : Option Variable → Variable → Bool
follows None v = true
follows (Some u) v = is_lt (variable_cmp u v)

-- each variable is above the one before, and none stands beside itself
abbrev pub ascends_after : Option Variable → List (Variable × Term) → Bool
ascends_after last [] = true
ascends_after last (p ∷ rest) = follows last p.0 && (not (same_term p.1 (term.Var p.0)) && ascends_after (Some p.0) rest)
