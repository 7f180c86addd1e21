-- Small cases of candidates and conclusions. s0 and s1 are constants, s2 a function and s3 a predicate of individuals.
use Rattle.std.proofs.Common.{◌≡◌, ℕ, List, [], ◌∷◌, refl}
use Rattle.std.specs.Prelude.{false, pos}
use Rattle.query_board.specs.declared.queries.Stamp.{Stamp}
use Rattle.term_base.specs.declared.places.Place.{Place}
use Rattle.term_base.specs.declared.places.Side.TheVariants.{Left, Right}
use Rattle.term_base.specs.declared.symbols.Class.TheVariants as class
use Rattle.term_base.specs.declared.symbols.Sort.TheVariants.{Individual, Truth, Int}
use Rattle.term_base.specs.declared.symbols.Symbol.{Symbol}
use Rattle.term_base.specs.declared.variables.Kind.TheVariants.{Ordinary}
use Rattle.term_base.specs.Lits.{Lit, equation, disequation}
use Rattle.term_base.specs.Trees.{Tree, var, node, none, more, truth, number, plus, times, symbol}
use Rattle.hier_rules.specs.declared.inferences.Candidate.TheVariants.{Superpose, Resolve}
use Rattle.hier_rules.specs.Candidates.{superpositions, own_candidates}
use Rattle.hier_rules.specs.CountedPlaces.{places}
use Rattle.hier_rules.specs.Heads.{heads_meet}
use Rattle.hier_rules.specs.Rules.{superposed, factored}

abbrev symbols : List Symbol
symbols =
    record { name = []; args = []; result = Individual; class = class.Foreground; classified = refl }
    ∷ record { name = []; args = []; result = Individual; class = class.Foreground; classified = refl }
    ∷ record { name = []; args = Individual ∷ []; result = Individual; class = class.Foreground; classified = refl }
    ∷ record { name = []; args = Individual ∷ []; result = Truth; class = class.Foreground; classified = refl } ∷ []

abbrev constant : ℕ → Tree
constant n = node (symbol n) none

abbrev call : ℕ → Tree → Tree
call n t = node (symbol n) (more t none)

abbrev yes : Tree
yes = node truth none

abbrev rule : Lit
rule = equation (call 2 (constant 0)) (constant 1)

abbrev fact : Lit
fact = equation (call 3 (call 2 (constant 0))) yes

abbrev stamp : ℕ → Stamp
stamp n = record { clause = n; version = 0 }

abbrev on_left : List ℕ → Place
on_left path = record { literal = 0; side = Left; path = path }

-- s2(s0) = s1 into s3(s2(s0)) = true gives s3(s1) = true
put_in_place : superposed (rule ∷ []) (fact ∷ []) 0 Left (on_left (0 ∷ [])) rule ≡ equation (call 3 (constant 1)) yes ∷ []
put_in_place = refl

-- it is a candidate: two sides, and the places s3(s2(s0)), s2(s0) and s0
in_preorder : superpositions symbols (rule ∷ []) (stamp 4) (fact ∷ []) (stamp 7)
    ≡ Superpose (stamp 4) 0 Left (stamp 7) (on_left [])
    ∷ Superpose (stamp 4) 0 Left (stamp 7) (on_left (0 ∷ []))
    ∷ Superpose (stamp 4) 0 Left (stamp 7) (on_left (0 ∷ 0 ∷ []))
    ∷ Superpose (stamp 4) 0 Right (stamp 7) (on_left [])
    ∷ Superpose (stamp 4) 0 Right (stamp 7) (on_left (0 ∷ []))
    ∷ Superpose (stamp 4) 0 Right (stamp 7) (on_left (0 ∷ 0 ∷ [])) ∷ []
in_preorder = refl

abbrev num : ℕ → Tree
num n = node (number (pos n)) none

abbrev n0 : Tree
n0 = var (record { kind = Ordinary; sort = Int; id = 0; proper = refl })

-- of s3((2 * N0) + 1) = true the call, the sum and the product count; the number of the product is no child, and 1 is Pure
pure_left_out : places symbols 0 (equation (call 3 (node plus (more (node times (more (num 2) (more n0 none))) (more (num 1) none)))) yes ∷ [])
    ≡ on_left [] ∷ on_left (0 ∷ []) ∷ on_left (0 ∷ 0 ∷ []) ∷ []
pure_left_out = refl

-- of s3(1 + (2 * s2(N0))) = true the product is child 1 of the sum, and s2(N0) is child 0 of the product
product_second : places symbols 0 (equation (call 3 (node plus (more (num 1) (more (node times (more (num 2) (more (call 2 n0) none))) none)))) yes ∷ [])
    ≡ on_left [] ∷ on_left (0 ∷ []) ∷ on_left (0 ∷ 1 ∷ []) ∷ on_left (0 ∷ 1 ∷ 0 ∷ []) ∷ []
product_second = refl

-- no background clause takes part
none_of_background : superpositions symbols (equation yes yes ∷ []) (stamp 4) (fact ∷ []) (stamp 7) ≡ []
none_of_background = refl

-- resolutions come before factorings
own : own_candidates symbols (rule ∷ disequation (constant 0) (constant 1) ∷ []) (stamp 4) ≡ Resolve (stamp 4) 1 ∷ []
own = refl

-- s0 = s1 | s0 = s0 factored by its first sides gives s0 = s1 | s1 != s0
second_replaced : factored (equation (constant 0) (constant 1) ∷ equation (constant 0) (constant 0) ∷ []) Left 1 Left (equation (constant 0) (constant 1)) (equation (constant 0) (constant 0))
    ≡ equation (constant 0) (constant 1) ∷ disequation (constant 1) (constant 0) ∷ []
second_replaced = refl

-- p(a) and p(b) have one head, a and b differ
one_head : heads_meet (constant 0) (constant 1) ≡ false
one_head = refl
