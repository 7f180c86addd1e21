-- Small cases of the definitions. s0: $int > $int; s1 and s2 are past the list, so parameters.
use Rattle.std.proofs.Common.{◌≡◌, ℕ, pos, true, false, List, [], ◌∷◌, refl}
use Rattle.std.specs.Prelude.{Some, None}
use Rattle.term_base.specs.declared.places.Place.{Place}
use Rattle.term_base.specs.declared.places.Side.TheVariants.{Left, Right}
use Rattle.term_base.specs.declared.symbols.Class.TheVariants as class
use Rattle.term_base.specs.declared.symbols.Sort.TheVariants.{Int}
use Rattle.term_base.specs.declared.symbols.Symbol.{Symbol}
use Rattle.term_base.specs.declared.variables.Kind.TheVariants.{Abstraction, Ordinary}
use Rattle.term_base.specs.declared.variables.Variable.{Variable}
use Rattle.term_base.specs.Trees.{Tree, var, node, none, more, number, symbol}
use Rattle.term_base.specs.Substitution.{single}
use Rattle.term_base.specs.Lits.{Lit, equation, disequation, inequality}
use Rattle.step_rules.specs.Abstraction.{is_abstraction}
use Rattle.step_rules.specs.Inference.{superposed, resolved, factored}
use Rattle.step_rules.specs.Simplified.{pinned, demodulated}
use Rattle.step_rules.specs.Symbols.{is_known, is_definable}

abbrev symbols : List Symbol
symbols = record { name = []; args = Int ∷ []; result = Int; class = class.Foreground; classified = refl } ∷ []

abbrev a : ℕ → Variable
a n = record { kind = Abstraction; sort = Int; id = n; proper = refl }

abbrev o : ℕ → Variable
o n = record { kind = Ordinary; sort = Int; id = n; proper = refl }

abbrev num : ℕ → Tree
num n = node (number (pos n)) none

abbrev parameter : ℕ → Tree
parameter n = node (symbol n) none

abbrev f : Tree → Tree
f t = node (symbol 0) (more t none)

-- t <= 0
abbrev bounded : Tree → Lit
bounded t = inequality t (num 0)

abbrev at_left : Place
at_left = record { literal = 0; side = Left; path = [] }

-- 2 for A0
abbrev two : Variable → Tree
two = single (a 0) (num 2)

-- s0(A0) = s1 into s0(2) <= 0 gives s1 <= 0
superposition : superposed (equation (f (var (a 0))) (parameter 1) ∷ []) 0 Left (bounded (f (num 2)) ∷ []) at_left two var ≡ Some (bounded (parameter 1) ∷ [])
superposition = refl

-- and nothing from the right
no_superposition : superposed (equation (f (var (a 0))) (parameter 1) ∷ []) 0 Right (bounded (f (num 2)) ∷ []) at_left two var ≡ None
no_superposition = refl

-- s0(A0) <= 0 | A0 != 2 gives s0(2) <= 0
resolution : resolved (bounded (f (var (a 0))) ∷ disequation (var (a 0)) (num 2) ∷ []) 1 two ≡ Some (bounded (f (num 2)) ∷ [])
resolution = refl

-- s0(A0) = s1 | s0(2) = 3 gives s0(2) = s1 | s1 != 3
factoring : factored (equation (f (var (a 0))) (parameter 1) ∷ equation (f (num 2)) (num 3) ∷ []) 0 Left 1 Left two ≡ Some (equation (f (num 2)) (parameter 1) ∷ disequation (parameter 1) (num 3) ∷ [])
factoring = refl

-- 2 != A0 pins A0 too
pin : pinned (bounded (f (var (a 0))) ∷ disequation (num 2) (var (a 0)) ∷ []) 1 ≡ Some (bounded (f (num 2)) ∷ [])
pin = refl

-- s0(2) <= 0 by s0(A0) = s1
demodulation : demodulated (bounded (f (num 2)) ∷ []) at_left (equation (f (var (a 0))) (parameter 1) ∷ []) Left two ≡ Some (bounded (parameter 1) ∷ [])
demodulation = refl

-- s0(s1) <= 0 and s0(A0) <= 0 | A0 != s1
abstraction : is_abstraction symbols (bounded (f (parameter 1)) ∷ []) (bounded (f (var (a 0))) ∷ disequation (var (a 0)) (parameter 1) ∷ []) ≡ true
abstraction = refl

-- an ordinary variable doesn't stand for a Pure term
wrong_kind : is_abstraction symbols (bounded (f (parameter 1)) ∷ []) (bounded (f (var (o 0))) ∷ disequation (var (o 0)) (parameter 1) ∷ []) ≡ false
wrong_kind = refl

-- A7 takes no place
no_place : is_abstraction symbols (bounded (f (num 2)) ∷ []) (bounded (f (num 2)) ∷ disequation (var (a 7)) (num 5) ∷ []) ≡ true
no_place = refl

-- s0(2) may be defined, s1 may not
definable : is_definable symbols (f (num 2)) ≡ true
definable = refl

parameter_stays : is_definable symbols (parameter 1) ≡ false
parameter_stays = refl

-- s1 is there where two symbols are
known : is_known 2 (parameter 1) ≡ true
known = refl
