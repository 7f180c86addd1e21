-- The texts of terms, literals and clauses.
use Rattle.std.specs.Prelude.{ℕ, ℤ, List, [], ◌∷◌, ◌++◌, map, codes}
use Rattle.std.specs.List.{flat_map}
use Rattle.term_base.specs.declared.symbols.Sort.{Sort}
use Rattle.term_base.specs.declared.symbols.Sort.TheVariants.{Individual, Int, Declared, Truth}
use Rattle.term_base.specs.declared.variables.Kind.{Kind}
use Rattle.term_base.specs.declared.variables.Kind.TheVariants.{Abstraction, Ordinary}
use Rattle.term_base.specs.declared.variables.Variable.{Variable}
use Rattle.term_base.specs.declared.terms.Term.{Term}
use Rattle.term_base.specs.declared.terms.Term.TheOpen.{Term-F, Var, Num, True, Sum, Scale, App}
use Rattle.term_base.specs.declared.terms.Term.TheFolds.{fold-Term}
use Rattle.term_base.specs.declared.clauses.Literal.{Literal}
use Rattle.term_base.specs.declared.clauses.Literal.TheVariants as literal
use Rattle.term_base.specs.declared.clauses.Clause.{Clause}
use Rattle.text_pieces.specs.Decimals.{decimal, signed_decimal}

-- ---- parts
-- letters, and behind them a number
abbrev pub numbered : List ℕ → ℕ → List ℕ
numbered letters n = letters ++ decimal n

-- a text behind another one
abbrev pub behind : List ℕ → List ℕ → List ℕ
behind front text = front ++ text

-- ---- variables
-- an ordinary variable by its sort; none has sort Truth
abbrev pub ordinary_text : Sort → ℕ → List ℕ
ordinary_text Individual n = numbered (codes "I") n
ordinary_text Int n = numbered (codes "N") n
ordinary_text (Declared sort) n = numbered (codes "D") sort ++ numbered (codes ".") n
ordinary_text Truth n = []

-- a variable by its kind
abbrev pub kind_text : Kind → Sort → ℕ → List ℕ
kind_text Abstraction sort n = numbered (codes "A") n
kind_text Ordinary sort n = ordinary_text sort n

-- a variable
abbrev pub variable_text : Variable → List ℕ
variable_text v = kind_text v.kind v.sort v.id

-- ---- terms
-- a sum, in brackets
abbrev pub sum_text : List ℕ → List ℕ → List ℕ
sum_text a b = codes "(" ++ (a ++ (codes " + " ++ (b ++ codes ")")))

-- a number times a term, in brackets
abbrev pub multiple_text : ℤ → List ℕ → List ℕ
multiple_text k a = codes "(" ++ (signed_decimal k ++ (codes " * " ++ (a ++ codes ")")))

-- the first text behind this front, and each later one behind a comma
abbrev pub listed : List ℕ → List (List ℕ) → List ℕ
listed front [] = []
listed front (t ∷ ts) = front ++ (t ++ listed (codes ",") ts)

-- the arguments in brackets with a comma between each two, nothing where there is none
abbrev pub arguments_text : List (List ℕ) → List ℕ
arguments_text [] = []
arguments_text (t ∷ ts) = listed (codes "(") (t ∷ ts) ++ codes ")"

-- a symbol by its number, with its arguments
abbrev pub application_text : ℕ → List (List ℕ) → List ℕ
application_text f ts = numbered (codes "s") f ++ arguments_text ts

-- one layer of a term, whose parts are texts already
abbrev pub term_step : Term-F (List ℕ) → List ℕ
term_step (Var v) = variable_text v
term_step (Num n) = signed_decimal n
term_step True = codes "true"
term_step (Sum a b) = sum_text a b
term_step (Scale k a) = multiple_text k a
term_step (App f ts) = application_text f ts

-- a term
abbrev pub term_text : Term → List ℕ
term_text = fold-Term (List ℕ) term_step

-- ---- literals and clauses
-- two sides with a relation between them
abbrev pub sides_text : List ℕ → List ℕ → List ℕ → List ℕ
sides_text s relation t = s ++ (relation ++ t)

-- a literal
abbrev pub literal_text : Literal → List ℕ
literal_text (literal.Equal s t) = sides_text (term_text s) (codes " = ") (term_text t)
literal_text (literal.Differ s t) = sides_text (term_text s) (codes " != ") (term_text t)
literal_text (literal.AtMost s t) = sides_text (term_text s) (codes " <= ") (term_text t)

-- literals with a stroke between each two
abbrev pub literals_text : List Literal → List ℕ
literals_text [] = codes "$false"
literals_text (l ∷ ls) = literal_text l ++ flat_map (behind (codes " | ")) (map literal_text ls)

-- a clause; the empty one is false
abbrev pub clause_text : Clause → List ℕ
clause_text c = literals_text c.literals
