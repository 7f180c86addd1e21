-- The candidates of two clauses and of one, in their order.
use Rattle.std.specs.Prelude.{ℕ, ◌+◌, ◌==◌, ◌||◌, not, List, [], ◌∷◌, ◌++◌, map, filter, if◌then◌else◌}
use Rattle.std.specs.List.{flat_map}
use Rattle.query_board.specs.declared.queries.Stamp.{Stamp}
use Rattle.term_base.specs.declared.places.Place.{Place}
use Rattle.term_base.specs.declared.places.Side.{Side}
use Rattle.term_base.specs.declared.places.Side.TheVariants.{Left, Right}
use Rattle.term_base.specs.declared.symbols.Symbol.{Symbol}
use Rattle.term_base.specs.Lits.{Relation, equal, differ, at_most, Lit}
use Rattle.term_base.specs.Clauses.{is_background}
use Rattle.hier_rules.specs.declared.inferences.Candidate.{Candidate}
use Rattle.hier_rules.specs.declared.inferences.Candidate.TheVariants.{Superpose, Resolve, Factor}
use Rattle.hier_rules.specs.CountedPlaces.{places}

-- ---- literals

-- both sides of an equation by its number, the left one first
abbrev pub both_sides : Relation → ℕ → List (ℕ × Side)
both_sides equal n = (n, Left) ∷ ((n, Right) ∷ [])
both_sides differ n = []
both_sides at_most n = []

-- the sides of the equations of a clause whose literals are numbered from n
abbrev pub equation_sides : ℕ → List Lit → List (ℕ × Side)
equation_sides n [] = []
equation_sides n (l ∷ ls) = both_sides l.relation n ++ equation_sides (n + 1) ls

-- ---- candidates

-- the superpositions from a side of an equation into these places
abbrev pub superpositions_from : Stamp → Stamp → List Place → ℕ × Side → List Candidate
superpositions_from cs ds into from = map (λ p. Superpose cs from.0 from.1 ds p) into

-- all superpositions from c into d
abbrev pub superpositions : List Symbol → List Lit → Stamp → List Lit → Stamp → List Candidate
superpositions signature c cs d ds =
    if is_background signature c || is_background signature d then []
    else flat_map (superpositions_from cs ds (places signature 0 d)) (equation_sides 0 c)

-- the resolution of a disequation by its number
abbrev pub resolution_of : Stamp → Relation → ℕ → List Candidate
resolution_of cs differ n = Resolve cs n ∷ []
resolution_of cs equal n = []
resolution_of cs at_most n = []

-- all resolutions of a clause whose literals are numbered from n
abbrev pub resolutions : ℕ → List Lit → Stamp → List Candidate
resolutions n [] cs = []
resolutions n (l ∷ ls) cs = resolution_of cs l.relation n ++ resolutions (n + 1) ls cs

-- the factorings of a side of an equation with these sides of other equations
abbrev pub factorings_from : Stamp → List (ℕ × Side) → ℕ × Side → List Candidate
factorings_from cs sides first =
    map (λ second. Factor cs first.0 first.1 second.0 second.1) (filter (λ second. not (second.0 == first.0)) sides)

-- all factorings of c: two equations by number, each with a side
abbrev pub factorings : List Lit → Stamp → List Candidate
factorings c cs = flat_map (factorings_from cs (equation_sides 0 c)) (equation_sides 0 c)

-- all resolutions, then all factorings
abbrev pub own_candidates : List Symbol → List Lit → Stamp → List Candidate
own_candidates signature c cs = if is_background signature c then [] else resolutions 0 c cs ++ factorings c cs
