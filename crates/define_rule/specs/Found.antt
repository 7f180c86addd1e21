-- What the code forms for the next term: the first term to define literal by literal, and the literals that remain once the pinned
-- terms are put in.
use Rattle.std.specs.Prelude.{List, [], ◌∷◌, ◌++◌, fold, Option, Some, None, if◌then◌else◌}
use Rattle.std.specs.Option.{option_or}
use Rattle.term_base.specs.declared.symbols.Symbol.{Symbol}
use Rattle.term_base.specs.Trees.{Tree}
use Rattle.term_base.specs.Substitution.{put_in}
use Rattle.term_base.specs.Lits.{Lit, put_clause}
use Rattle.define_rule.specs.Pins.{pin}
use Rattle.define_rule.specs.NextTerm.{differs_from_itself, is_definition}
use Rattle.define_rule.specs.Scan.{literal_find}

-- the first term to define of these literals, with the pinned terms of the clause
abbrev pub clause_find : List Symbol → List Lit → List Lit → Option Tree
clause_find signature c [] = None
clause_find signature c (l ∷ ls) = option_or (literal_find signature c l) (clause_find signature c ls)

-- a literal is added behind others, where it isn't t != t
abbrev pub add_remaining : List Lit → Lit → List Lit
add_remaining ls l = if differs_from_itself l.relation l.left l.right then ls else ls ++ l ∷ []

-- the literals of a clause that remain once the pinned terms are put in
abbrev pub remaining : List Symbol → List Lit → List Lit
remaining signature c = fold add_remaining [] (put_clause (pin signature c) c)

-- the answer, by the first term to define
abbrev pub after_find : List Symbol → List Lit → Option Tree → Option Tree
after_find signature c None = None
after_find signature c (Some t) = if is_definition signature (remaining signature c) then None else Some (put_in (pin signature c) t)

abbrev pub found : List Symbol → List Lit → Option Tree
found signature c = after_find signature c (clause_find signature c c)
