-- The variables of a clause, numbered afresh by first place.
use Rattle.std.specs.Prelude.{ℕ, Bool, true, false, ◌&&◌, ◌||◌, List, [], ◌∷◌, ◌++◌, map, fold, nat_eq, position, if◌then◌else◌, refl}
use Rattle.std.specs.List.{flat_map, list_any}
use Rattle.std.specs.Option.{option_map_or}
use Rattle.term_base.specs.declared.symbols.Sort.{Sort}
use Rattle.term_base.specs.declared.symbols.Sort.TheVariants as sorts
use Rattle.term_base.specs.declared.symbols.Symbol.{Symbol}
use Rattle.term_base.specs.declared.variables.Kind.{Kind}
use Rattle.term_base.specs.declared.variables.Kind.TheVariants.{Abstraction, Ordinary}
use Rattle.term_base.specs.declared.variables.Variable.{Variable}
use Rattle.term_base.specs.Proper.{IsProper}
use Rattle.term_base.specs.Purity.{foreground}
use Rattle.term_base.specs.Trees.{tree}
use Rattle.term_base.specs.declared.terms.Term.{Term}
use Rattle.term_base.specs.declared.terms.Term.TheVariants as term
use Rattle.term_base.specs.declared.terms.Term.TheOpen as t
use Rattle.term_base.specs.declared.terms.Term.TheOpen.{Term-F}
use Rattle.term_base.specs.declared.terms.Term.TheFolds.{fold-Term}
use Rattle.term_base.specs.declared.clauses.Literal.{Literal}
use Rattle.term_base.specs.declared.clauses.Literal.TheVariants as literal
use Rattle.term_base.specs.declared.clauses.Clause.{Clause}

-- ---- the two sides of a literal

abbrev pub left_side : Literal → Term
left_side (literal.Equal s u) = s
left_side (literal.Differ s u) = s
left_side (literal.AtMost s u) = s

abbrev pub right_side : Literal → Term
right_side (literal.Equal s u) = u
right_side (literal.Differ s u) = u
right_side (literal.AtMost s u) = u

abbrev pub map_sides : (Term → Term) → Literal → Literal
map_sides f (literal.Equal s u) = literal.Equal (f s) (f u)
map_sides f (literal.Differ s u) = literal.Differ (f s) (f u)
map_sides f (literal.AtMost s u) = literal.AtMost (f s) (f u)

-- ---- the numbers of the binders in a clause

abbrev pub ids_step : Term-F (List ℕ) → List ℕ
ids_step (t.Var v) = v.id ∷ []
ids_step (t.Num n) = []
ids_step t.True = []
ids_step (t.Sum a b) = a ++ b
ids_step (t.Scale k a) = a
ids_step (t.App g args) = flat_map (λ a. a) args

-- the numbers of a term's variables, from left to right
abbrev pub ids : Term → List ℕ
ids = fold-Term (List ℕ) ids_step

abbrev pub literal_ids : Literal → List ℕ
literal_ids l = ids (left_side l) ++ ids (right_side l)

-- a number is added behind those before it, where it isn't among them
abbrev pub add_new : List ℕ → ℕ → List ℕ
add_new seen n = if list_any (nat_eq n) seen then seen else seen ++ n ∷ []

-- each number once, in the order of first places
abbrev pub by_first_place : List ℕ → List ℕ
by_first_place ns = fold add_new [] ns

-- the place of a number among these
abbrev pub place : ℕ → List ℕ → ℕ
place n places = option_map_or (λ k. k) (position (nat_eq n) places) 0

-- a foreground symbol is in a literal
abbrev pub literal_has_foreground : List Symbol → Literal → Bool
literal_has_foreground symbols l = foreground symbols (tree (left_side l)) || foreground symbols (tree (right_side l))

-- ---- numbering

-- a variable of sort Int is an abstraction variable, unless it is to be ordinary
abbrev pub kind_of : Bool → Sort → Kind
kind_of ordinary sorts.Int = if ordinary then Ordinary else Abstraction
kind_of ordinary _ = Ordinary

pub kind_of-proper : (ordinary : Bool) (k : Kind) (s : Sort) → IsProper k s → IsProper (kind_of ordinary s) s
kind_of-proper true k sorts.Int h = refl
kind_of-proper false k sorts.Int h = refl
kind_of-proper ordinary k sorts.Individual h = refl
kind_of-proper ordinary k (sorts.Declared n) h = refl
kind_of-proper ordinary Abstraction sorts.Truth h = h
kind_of-proper ordinary Ordinary sorts.Truth h = h

-- the variable numbered by its place among these
abbrev pub renumbered : Bool → List ℕ → Variable → Variable
renumbered ordinary places v = record { kind = kind_of ordinary v.sort; sort = v.sort; id = place v.id places; proper = kind_of-proper ordinary v.kind v.sort v.proper }

abbrev pub renumber_step : Bool → List ℕ → Term-F Term → Term
renumber_step ordinary places (t.Var v) = term.Var (renumbered ordinary places v)
renumber_step ordinary places (t.Num n) = term.Num n
renumber_step ordinary places t.True = term.True
renumber_step ordinary places (t.Sum a b) = term.Sum a b
renumber_step ordinary places (t.Scale k a) = term.Scale k a
renumber_step ordinary places (t.App g args) = term.App g args

abbrev pub renumber : Bool → List ℕ → Term → Term
renumber ordinary places = fold-Term Term (renumber_step ordinary places)

-- the clause of these literals: variables by first place; with `ordinary`, no abstraction variable beside a foreground symbol
abbrev pub numbered : List Symbol → Bool → List Literal → Clause
numbered symbols ordinary ls =
    let is_ordinary = ordinary && list_any (literal_has_foreground symbols) ls in
    record { literals = map (map_sides (renumber is_ordinary (by_first_place (flat_map literal_ids ls)))) ls }
