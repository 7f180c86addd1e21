-- Small cases of the definitions. s0: $int > $int, s1: $int; s2, .. are past the list.
use Rattle.std.specs.Prelude.{◌≡◌, ℕ, pos, true, false, List, [], ◌∷◌}
use Rattle.std.proofs.Common.{refl}
use Rattle.term_base.specs.TermFolds.{fold-Num, fold-App}
use Rattle.term_base.specs.declared.clauses.Clause.{Clause}
use Rattle.term_base.specs.declared.preparation.Prepared.{Prepared}
use Rattle.term_base.specs.declared.symbols.Class.TheVariants as class
use Rattle.term_base.specs.declared.symbols.Sort.TheVariants.{Int}
use Rattle.term_base.specs.declared.symbols.Symbol.{Symbol}
use Rattle.term_base.specs.declared.terms.Term.{Term}
use Rattle.term_base.specs.declared.terms.Term.TheVariants as term
use Rattle.term_base.specs.Trees.{node, none, more, number, symbol}
use Rattle.term_base.specs.Lits.{Lit, equation}
use Rattle.proof_steps.specs.declared.steps.Rule.TheVariants.{Input}
use Rattle.proof_steps.specs.declared.steps.Step.{Step}
use Rattle.proof_steps.specs.Standing.{definition_stands}
use Rattle.proof_steps.specs.Derivations.{stands_on_earlier, ends_empty}

-- ---- a file whose only clause is empty
abbrev empty : Clause
empty = record { literals = [] }

abbrev prepared : Prepared
prepared = record { symbols = []; clauses = empty ∷ [] }

abbrev input : ℕ → List Step
input k = record { rule = Input k; clause = empty } ∷ []

no_steps : ends_empty [] ≡ false
no_steps = refl

first_input : stands_on_earlier prepared (input 0) 0 ≡ true
first_input = refl

empty_at_the_end : ends_empty (input 0) ≡ true
empty_at_the_end = refl

no_such_input : stands_on_earlier prepared (input 1) 0 ≡ false
no_such_input = refl

-- ---- s0(2) = s2, where s2 is the next symbol
abbrev symbols : List Symbol
symbols =
    record { name = []; args = Int ∷ []; result = Int; class = class.Foreground; classified = refl }
    ∷ record { name = []; args = []; result = Int; class = class.Parameter; classified = refl }
    ∷ []

abbrev two : Term
two = term.App 0 (term.Num (pos 2) ∷ [])

abbrev equals : ℕ → List Lit
equals f = equation (node (symbol 0) (more (node (number (pos 2)) none) none)) (node (symbol f) none) ∷ []

ruleset terms = (fold-Num, fold-App)

next_symbol : definition_stands symbols 2 two 2 (equals 2) ≡ true
next_symbol = simp terms

symbol_after_it : definition_stands symbols 2 two 3 (equals 3) ≡ false
symbol_after_it = simp terms
