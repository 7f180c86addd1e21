-- Variables with other numbers: those of the second premise raised past those of the first, and the new names of an
-- answer's variables.
use Rattle.std.specs.Prelude.{ℕ, suc, ◌+◌, Bool, true, ◌&&◌, not, List, [], ◌∷◌, map, refl, if◌then◌else◌}
use Rattle.term_base.specs.declared.symbols.Sort.TheVariants.{Int}
use Rattle.term_base.specs.declared.symbols.Symbol.{Symbol}
use Rattle.term_base.specs.declared.terms.Term.{Term}
use Rattle.term_base.specs.declared.terms.Term.TheVariants as term
use Rattle.term_base.specs.declared.variables.Kind.TheVariants.{Abstraction}
use Rattle.term_base.specs.declared.variables.Variable.{Variable}
use Rattle.term_base.specs.Same.{same_variable}
use Rattle.term_base.specs.SameTerm.{same_term}
use Rattle.term_base.specs.Purity.{foreground, is_abstraction}
use Rattle.term_base.specs.Substitution.{image, put_in}
use Rattle.term_base.specs.Trees.{Tree, var, tree}
use Rattle.unifier.specs.Variables.{has, gathered}

-- the variable of the same kind and sort with another number
abbrev pub with_id : ℕ → Variable → Variable
with_id n v = record { kind = v.kind; sort = v.sort; id = n; proper = v.proper }

-- the abstraction variable of a number
abbrev pub abstraction : ℕ → Variable
abstraction n = record { kind = Abstraction; sort = Int; id = n; proper = refl }

abbrev pub raised : ℕ → Variable → Variable
raised base v = with_id (v.id + base) v

-- the place of a variable in a list, counted from 0
abbrev pub place_in : List Variable → Variable → ℕ
place_in [] v = 0
place_in (w ∷ ws) v = if same_variable w v then 0 else suc (place_in ws v)

-- the new name of a variable: its place among all of them, and an abstraction variable where it has to be one
abbrev pub new_name : List Variable → List Variable → Variable → Variable
new_name forced known z = if has forced z then abstraction (place_in known z) else with_id (place_in known z) z

-- a tree with the new names
abbrev pub renamed : List Variable → List Variable → Tree → Tree
renamed forced known t = put_in (λ z. var (new_name forced known z)) t

-- a pair with its term as a tree
abbrev pub seen : Variable × Term → Variable × Tree
seen p = (p.0, tree p.1)

-- a pair with its term as a tree with the new names
abbrev pub seen_renamed : List Variable → List Variable → Variable × Term → Variable × Tree
seen_renamed forced known p = (p.0, renamed forced known (tree p.1))

-- the variables of a list of pairs
abbrev pub variables : List (Variable × Term) → List Variable
variables ps = map (λ p. p.0) ps

-- each variable of a list, beside what stands for it once its number is raised
abbrev pub images_of : List (Variable × Term) → ℕ → List Variable → List (Variable × Tree)
images_of found base vs = map (λ v. (v, image found (raised base v))) vs

-- no abstraction variable stands beside a tree with a foreground symbol
abbrev pub is_plain : List Symbol → List (Variable × Tree) → Bool
is_plain signature [] = true
is_plain signature (p ∷ ps) = not (is_abstraction p.0 && foreground signature p.1) && is_plain signature ps

-- the variables that have to become abstraction variables: those of the trees beside abstraction variables
abbrev pub forced_with : Variable × Tree → List Variable → List Variable
forced_with p vs = if is_abstraction p.0 then gathered p.1 vs else vs

abbrev pub forced_in : List (Variable × Tree) → List Variable → List Variable
forced_in [] vs = vs
forced_in (p ∷ ps) vs = forced_in ps (forced_with p vs)

-- the variables of all trees
abbrev pub known_in : List (Variable × Tree) → List Variable → List Variable
known_in [] vs = vs
known_in (p ∷ ps) vs = known_in ps (gathered p.1 vs)

-- the pairs whose term is not their variable
abbrev pub moving : List (Variable × Term) → List (Variable × Term)
moving [] = []
moving (p ∷ ps) = if same_term p.1 (term.Var p.0) then moving ps else p ∷ moving ps

-- the tree beside a variable, or the variable itself
abbrev pub pick : List (Variable × Tree) → Variable → Tree
pick [] v = var v
pick (p ∷ ps) v = if same_variable p.0 v then p.1 else pick ps v

-- of the answer to two premises: the images of both, and what follows from them
abbrev pub are_plain : List Symbol → List (Variable × Tree) → List (Variable × Tree) → Bool
are_plain signature left right = is_plain signature left && is_plain signature right

abbrev pub forced_of : List (Variable × Tree) → List (Variable × Tree) → List Variable
forced_of left right = forced_in right (forced_in left [])

abbrev pub known_of : List (Variable × Tree) → List (Variable × Tree) → List Variable
known_of left right = known_in right (known_in left [])

-- what stands for a variable of a list in the answer
abbrev pub named : List Variable → List Variable → List (Variable × Term) → ℕ → List Variable → Variable → Tree
named forced known found base vs v = if has vs v then renamed forced known (image found (raised base v)) else var v
