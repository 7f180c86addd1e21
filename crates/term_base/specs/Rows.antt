-- Small cases of the definitions.
use Rattle.std.proofs.Common.{ap, sym, refl, inl, inr}
use Rattle.std.specs.Prelude.{◌≡◌, pos, negsuc, Bool, true, false, List, [], ◌∷◌, Some, None}
use Rattle.term_base.specs.declared.places.Place.{Place}
use Rattle.term_base.specs.declared.places.Side.TheVariants.{Right}
use Rattle.term_base.specs.declared.symbols.Class.TheVariants as class
use Rattle.term_base.specs.declared.symbols.Sort.TheVariants.{Int, Declared, Truth}
use Rattle.term_base.specs.declared.symbols.Symbol.{Symbol}
use Rattle.term_base.specs.declared.terms.Purity.TheVariants.{Pure, Impure, Foreground}
use Rattle.term_base.specs.declared.variables.Kind.TheVariants.{Abstraction, Ordinary}
use Rattle.term_base.specs.declared.variables.Variable.{Variable}
use Rattle.term_base.specs.Trees.{Tree, var, node, none, more, truth, number, plus, times, symbol, same_tree}
use Rattle.term_base.specs.TreeLemmas.{both_ways, same_tree-refl}
use Rattle.term_base.specs.Sorting.{sort, has_sort}
use Rattle.term_base.specs.Purity.{purity, foreground}
use Rattle.term_base.specs.Substitution.{put_in, single, Simple}
use Rattle.term_base.specs.SubstLemmas.{single-simple}
use Rattle.term_base.specs.Lits.{Relation, equal, differ, at_most, Lit, equation, disequation, inequality, put_clause, Among}
use Rattle.term_base.specs.Redundancy.{Tautology, equals_itself, at_most_itself, opposed, opposed_crosswise, Covers}
use Rattle.term_base.specs.Clauses.{is_well_sorted, is_background}
use Rattle.term_base.specs.Places.{tree_at, replaced}
use Rattle.term_base.specs.Weight.{clause_weight}

-- s0: $int > $int, s1: $int > $o; s2 is past the list, so a parameter
abbrev symbols : List Symbol
symbols =
    record { name = []; args = Int ∷ []; result = Int; class = class.Foreground; classified = refl }
    ∷ (record { name = []; args = Int ∷ []; result = Truth; class = class.Foreground; classified = refl } ∷ [])

abbrev a0 : Variable
a0 = record { kind = Abstraction; sort = Int; id = 0; proper = refl }

abbrev n0 : Variable
n0 = record { kind = Ordinary; sort = Int; id = 0; proper = refl }

abbrev d0 : Variable
d0 = record { kind = Ordinary; sort = Declared 0; id = 0; proper = refl }

abbrev one : Tree
one = node (number (pos 1)) none

abbrev plus_one : Tree → Tree
plus_one t = node plus (more t (more one none))

abbrev unary : Tree → Tree
unary t = node (symbol 0) (more t none)

-- A0 + 1, N0 + 1, D0.0, true, s2, s0(A0 + 1)
pure_sum : purity symbols (plus_one (var a0)) ≡ Pure
pure_sum = refl

impure_sum : purity symbols (plus_one (var n0)) ≡ Impure
impure_sum = refl

declared_impure : purity symbols (var d0) ≡ Impure
declared_impure = refl

truth_pure : purity symbols (node truth none) ≡ Pure
truth_pure = refl

parameter_pure : purity symbols (node (symbol 2) none) ≡ Pure
parameter_pure = refl

application_foreground : purity symbols (unary (plus_one (var a0))) ≡ Foreground
application_foreground = refl

-- s0(s1(1)) has no sort; s2 has sort Int, and s2(1) none
no_sort : sort symbols (unary (node (symbol 1) (more one none))) ≡ None
no_sort = refl

parameter_sort : sort symbols (node (symbol 2) none) ≡ Some Int
parameter_sort = refl

parameter_arguments : sort symbols (node (symbol 2) (more one none)) ≡ None
parameter_arguments = refl

-- A0 and N0 of one number are two variables
other_kind : put_in (single a0 one) (plus_one (var n0)) ≡ plus_one (var n0)
other_kind = refl

-- 1 <= ((3 * s3) + (-1 * (3 * s4))) weighs 1 and 9
abbrev times_of : Tree → Tree → Tree
times_of k t = node times (more k (more t none))

abbrev three : Tree
three = node (number (pos 3)) none

abbrev minus_one : Tree
minus_one = node (number (negsuc 0)) none

abbrev difference : Tree
difference = node plus (more (times_of three (node (symbol 3) none)) (more (times_of minus_one (times_of three (node (symbol 4) none))) none))

abbrev row : List Lit
row = inequality one difference ∷ []

row_weight : clause_weight row ≡ 10
row_weight = refl

row_background : is_background symbols row ≡ true
row_background = refl

row_sorted : is_well_sorted symbols row ≡ true
row_sorted = refl

-- the place 0R.1.0 has 3 * s4, and 0R.1.0.0 has s4
abbrev place : Place
place = record { literal = 0; side = Right; path = 1 ∷ (0 ∷ (0 ∷ [])) }

row_place : tree_at row place ≡ Some (node (symbol 4) none)
row_place = refl

row_replaced : tree_at (replaced row place one) place ≡ Some one
row_replaced = refl

-- A0 may go to A0 + 1, to neither N0 nor s0(0); N0 may go to s0(0), and not to true
abbrev nought : Tree
nought = node (number (pos 0)) none

abbrev so : Tree
so = node truth none

pure_image_simple : Simple symbols (single a0 (plus_one (var a0)))
pure_image_simple = single-simple symbols a0 (plus_one (var a0)) refl (λ h. record { no_foreground = refl; no_ordinary = refl })

impure_image_not_simple : Simple symbols (single a0 (var n0)) → ⊥
impure_image_not_simple s = both_ways true refl (s.pure a0 refl).no_ordinary

foreground_image_not_simple : Simple symbols (single a0 (unary nought)) → ⊥
foreground_image_not_simple s = both_ways true refl (s.pure a0 refl).no_foreground

ordinary_image_simple : Simple symbols (single n0 (unary nought))
ordinary_image_simple = single-simple symbols n0 (unary nought) refl (λ h. absurd (both_ways false h refl))

other_sort_not_simple : Simple symbols (single n0 so) → ⊥
other_sort_not_simple s = both_ways false (ap (λ o. has_sort o Int) (s.sorted n0)) refl

-- N0 <= 0 is a background clause, and under this simple substitution it is none
abbrev bound : List Lit
bound = inequality (var n0) nought ∷ []

bound_background : is_background symbols bound ≡ true
bound_background = refl

instance_not_background : is_background symbols (put_clause (single n0 (unary nought)) bound) ≡ false
instance_not_background = refl

-- 0 <= 1 | 1 = 1, 1 <= 1, 0 = 1 | 0 != 1 and 0 = 1 | 1 != 0
equation_tautology : Tautology (inequality nought one ∷ (equation one one ∷ []))
equation_tautology = equals_itself one (inr (inl refl))

inequality_tautology : Tautology (inequality one one ∷ [])
inequality_tautology = at_most_itself one (inl refl)

opposed_tautology : Tautology (equation nought one ∷ (disequation nought one ∷ []))
opposed_tautology = opposed nought one (inl refl) (inr (inl refl))

crosswise_tautology : Tautology (equation nought one ∷ (disequation one nought ∷ []))
crosswise_tautology = opposed_crosswise nought one (inl refl) (inr (inl refl))

-- 0 <= 1 holds, and is no tautology
abbrev is_inequality : Relation → Bool
is_inequality equal = false
is_inequality differ = false
is_inequality at_most = true

no_equation : (s t : Tree) → Among (equation s t) (inequality nought one ∷ []) → ⊥
no_equation s t (inl e) = both_ways true refl (ap (λ (l : Lit). is_inequality l.relation) e)
no_equation s t (inr m) = m

inequality_not_tautology : Tautology (inequality nought one ∷ []) → ⊥
inequality_not_tautology (equals_itself t m) = no_equation t t m
inequality_not_tautology (at_most_itself t (inl e)) = both_ways (same_tree t t) (same_tree-refl t) (sym (ap (λ (l : Lit). same_tree l.left l.right) e))
inequality_not_tautology (at_most_itself t (inr m)) = m
inequality_not_tautology (opposed s t m other) = no_equation s t m
inequality_not_tautology (opposed_crosswise s t m other) = no_equation s t m

-- s1(N0) covers s1(s0(1)), and s1(A0) does not: no abstraction variable goes to a foreground term
abbrev fact : Tree → Lit
fact t = equation (node (symbol 1) (more t none)) so

abbrev is_disequation : Relation → Bool
is_disequation equal = false
is_disequation differ = true
is_disequation at_most = false

abbrev first_argument : Tree → Tree
first_argument (node f (more x xs)) = x
first_argument t = t

instance_covered : Covers symbols (fact (var n0) ∷ []) (fact (unary one) ∷ [])
instance_covered = record {
  by = single n0 (unary one);
  simple = single-simple symbols n0 (unary one) refl (λ h. absurd (both_ways false h refl));
  each = (inl (inl refl), tt);
}

foreground_not_covered : Covers symbols (fact (var a0) ∷ []) (fact (unary one) ∷ []) → ⊥
foreground_not_covered c = elim (c.each.0) [
  | inl m ↦ elim m [
    | inl e ↦ both_ways (foreground symbols (c.by a0)) (sym (ap (λ (l : Lit). foreground symbols (first_argument l.left)) e)) (c.simple.pure a0 refl).no_foreground
    | inr rest ↦ rest
  ]
  | inr d ↦ both_ways false (ap is_disequation d.differs) refl
]

-- s1(N0) | s1(N1) covers s1(N0): there is no bound on length
abbrev n1 : Variable
n1 = record { kind = Ordinary; sort = Int; id = 1; proper = refl }

factor_covered : Covers symbols (fact (var n0) ∷ (fact (var n1) ∷ [])) (fact (var n0) ∷ [])
factor_covered = record {
  by = single n1 (var n0);
  simple = single-simple symbols n1 (var n0) refl (λ h. absurd (both_ways false h refl));
  each = (inl (inl refl), (inl (inl refl), tt));
}

-- A0 != A1 + 1 covers the empty clause
abbrev a1 : Variable
a1 = record { kind = Abstraction; sort = Int; id = 1; proper = refl }

disequation_covers : Covers symbols (disequation (var a0) (plus_one (var a1)) ∷ []) []
disequation_covers = record {
  by = single a0 (plus_one (var a1));
  simple = single-simple symbols a0 (plus_one (var a1)) refl (λ h. record { no_foreground = refl; no_ordinary = refl });
  each = (inr (record { differs = refl; sides = refl }), tt);
}

-- 0 = 1 does not cover 1 = 0
crosswise_not_covered : Covers symbols (equation nought one ∷ []) (equation one nought ∷ []) → ⊥
crosswise_not_covered c = elim (c.each.0) [
  | inl m ↦ elim m [
    | inl e ↦ both_ways true refl (ap (λ (l : Lit). same_tree l.left one) e)
    | inr rest ↦ rest
  ]
  | inr d ↦ both_ways false (ap is_disequation d.differs) refl
]
