-- Small cases of the next term. s0 is a function of one integer; s1 is past the list, so a parameter.
use Rattle.std.proofs.Common.{◌≡◌, List, [], ◌∷◌, refl}
use Rattle.std.specs.Prelude.{ℕ, pos, Some, None}
use Rattle.term_base.specs.declared.symbols.Class.TheVariants as class
use Rattle.term_base.specs.declared.symbols.Sort.TheVariants.{Int}
use Rattle.term_base.specs.declared.symbols.Symbol.{Symbol}
use Rattle.term_base.specs.declared.variables.Kind.TheVariants.{Abstraction}
use Rattle.term_base.specs.Trees.{Tree, var, node, none, more, number, symbol}
use Rattle.term_base.specs.Lits.{equation, disequation, inequality}
use Rattle.define_rule.specs.NextTerm.{next_term}

abbrev symbols : List Symbol
symbols = record { name = []; args = Int ∷ []; result = Int; class = class.Foreground; classified = refl } ∷ []

abbrev a0 : Tree
a0 = var (record { kind = Abstraction; sort = Int; id = 0; proper = refl })

abbrev num : ℕ → Tree
num n = node (number (pos n)) none

abbrev s0 : Tree → Tree
s0 t = node (symbol 0) (more t none)

abbrev s1 : Tree
s1 = node (symbol 1) none

-- s0(s0(0)) <= 1 gives s0(0), and s0(0) = 5 none
innermost : next_term symbols (inequality (s0 (s0 (num 0))) (num 1) ∷ []) ≡ Some (s0 (num 0))
innermost = refl

defined : next_term symbols (equation (s0 (num 0)) (num 5) ∷ []) ≡ None
defined = refl

-- s0(A0) <= 1 gives none; with A0 != s1 | A0 != 2 it gives s0(s1)
not_pinned : next_term symbols (inequality (s0 a0) (num 1) ∷ []) ≡ None
not_pinned = refl

first_pin : next_term symbols (inequality (s0 a0) (num 1) ∷ (disequation a0 s1 ∷ (disequation a0 (num 2) ∷ []))) ≡ Some (s0 s1)
first_pin = refl

-- A0 != 2 | s1 = s0(A0) gives none, and s1 = s0(s0(2)) gives s0(2)
defined_by_pin : next_term symbols (disequation a0 (num 2) ∷ (equation s1 (s0 a0) ∷ [])) ≡ None
defined_by_pin = refl

nested : next_term symbols (equation s1 (s0 (s0 (num 2))) ∷ []) ≡ Some (s0 (num 2))
nested = refl
