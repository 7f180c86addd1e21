-- Worked rows of the texts.
use Rattle.std.proofs.Common.{refl}
use Rattle.std.specs.Prelude.{◌≡◌, ℕ, List, pos, negsuc, [], ◌∷◌, codes}
use Rattle.term_base.specs.declared.symbols.Sort.TheVariants.{Individual, Int, Declared}
use Rattle.term_base.specs.declared.variables.Kind.TheVariants.{Abstraction, Ordinary}
use Rattle.text_pieces.specs.Decimals.{signed_decimal}
use Rattle.term_text.specs.Texts.{application_text, clause_text, multiple_text, sides_text, sum_text, variable_text}

-- an abstraction variable, and ordinary ones of sort Int, of $i, and of the third declared sort
abbrev pub a7 : List ℕ
a7 = variable_text (record { kind = Abstraction; sort = Int; id = 7; proper = refl })

abbrev pub n0 : List ℕ
n0 = variable_text (record { kind = Ordinary; sort = Int; id = 0; proper = refl })

abbrev pub i4 : List ℕ
i4 = variable_text (record { kind = Ordinary; sort = Individual; id = 4; proper = refl })

abbrev pub d2_5 : List ℕ
d2_5 = variable_text (record { kind = Ordinary; sort = Declared 2; id = 5; proper = refl })

-- the empty clause
abbrev pub EmptyClause : Type 0
EmptyClause = clause_text (record { literals = [] }) ≡ codes "$false"

-- a sum, and a multiple of an abstraction variable
abbrev pub SumAndMultiple : Type 0
SumAndMultiple =
    sides_text (sum_text (signed_decimal (pos 3)) (signed_decimal (pos 1))) (codes " <= ") (multiple_text (negsuc 1) a7)
    ≡ codes "(3 + 1) <= (-2 * A7)"

-- a symbol of two arguments, one of which is a symbol without any
abbrev pub TwoArguments : Type 0
TwoArguments = sides_text (application_text 0 (n0 ∷ application_text 1 [] ∷ [])) (codes " != ") (codes "true") ≡ codes "s0(N0,s1) != true"

-- variables of two sorts
abbrev pub TwoSorts : Type 0
TwoSorts = sides_text d2_5 (codes " = ") i4 ≡ codes "D2.5 = I4"
